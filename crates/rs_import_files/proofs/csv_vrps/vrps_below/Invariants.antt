use Rattle.std.proofs.Common.{ℕ, List, [], ◌∷◌}
use Rattle.rs_import_files.specs.Csv.{AreVrps}
use Rattle.rs_import_files.specs.Rows.{HasRead}
use Rattle.rs_import_files.proofs.csv_vrps.vrps_below.Given as goal

-- the VRPs so far are those of the rows so far
abbrev pub invariant-loop-turn : goal.invariant-loop-turn
invariant-loop-turn l =
    (text : List ℕ) (titles : List (List ℕ)) → HasRead text (titles ∷ []) l.fn.reader
    → (rows : List (List (List ℕ))) × HasRead text (titles ∷ rows) l.reader × AreVrps rows l.vrps.items
