-- An iterator that gives what is left, one after another, makes progress: for the iterators of number_list.rt, as_path.rt and
-- attributes.rt.
use Rattle.std.proofs.Common.{◌≡◌, List, ◌∷◌, length, Some, ap, arith}
use Rattle.std.specs.Iterator.{MakesProgress, item_count}
use Rattle.std.specs.declared.iter.Iterator.{can_next-default}

pub one_less : {S A B : Type 0} (rest : S → List B) (s : S) (x : A) (t : S) (y : B) → rest s ≡ y ∷ rest t
    → MakesProgress {S = S} {A = A} (can_next-default S A) (item_count rest) s (Some x) t
one_less rest s x t y e =
    let shorter = ap length e in
    record { on = λ _. (tt, tt, omega (arith, shorter)); keeps = tt; rests = λ _. tt }
