-- Lists that are made from each element together with the elements before it.
use Rattle.std.specs.Prelude.{List, [], ◌∷◌, ◌++◌}

-- what each element gives, together with the elements before it; the first argument stands before all
abbrev pub each_behind : {X Y : Type 0} → (List X → X → List Y) → List X → List X → List Y
each_behind make before [] = []
each_behind make before (one ∷ later) = make before one ++ each_behind make (before ++ one ∷ []) later
