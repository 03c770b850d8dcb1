-- Files that are read so, one more at a time.
use Rattle.std.proofs.Common.{◌++◌, ◌∷◌, [], List, inl, inr, length}
use Rattle.rs_choice.specs.Plan.{Plan}
use Rattle.rs_opening.specs.Opening.{AreReadSo, IsReadSo, Replaying, sought_of}
use Rattle.rs_mrt.proofs.PushedLemmas.{at-pushed}
use Rattle.rs_mrt.specs.declared.bounds.FileReading.{FileReading}

-- the file of the next number is one more that is read so
pub one_more_read_so : {F : Type 0} (reading : FileReading) (plan : Plan) (files : List (Replaying F))
    (file : Replaying F) → AreReadSo reading plan files → IsReadSo reading (sought_of plan (length files)) file
    → AreReadSo reading plan (files ++ file ∷ [])
one_more_read_so reading plan files file before last number one at = elim (at-pushed files file one number at) [
  | inl there ↦ before number one there
  | inr here ↦ rw (here.0, ← here.1) last
]
