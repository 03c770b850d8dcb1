-- Facts of options and of conditions. For MergeLemmas, and the lemmas of cell, cells, listing and tables.
use Rattle.std.proofs.Common.{◌≡◌, true, false, Bool, cond, Option, Some, None, refl}
use Rattle.std.specs.Option.{is_some}

pub absent : {X : Type 0} (o : Option X) → is_some o ≡ false → o ≡ None
absent None e = refl
absent (Some x) e = absurd (cc e)

pub either_way : {X : Type 0} (b : Bool) (x : X) → x ≡ cond b x x
either_way true x = refl
either_way false x = refl
