-- The path of a dump. Nothing here is from a standard: all of it is our choice.
use Rattle.std.specs.Prelude.{ℕ, eqb, codes, if◌then◌else◌, List, ◌++◌}
use Rattle.std.specs.List.{ends_with}

-- the path of a file in a folder: a folder that ends in `/` gets no second one
abbrev pub path_in : List ℕ → List ℕ → List ℕ
path_in folder name = if ends_with eqb folder (codes "/") then folder ++ name else folder ++ (codes "/" ++ name)
