-- What is appended to the buffer, one thing after another.
use Rattle.std.proofs.Common.{ℕ, ◌∙◌, List, ◌++◌, ap, append_assoc, arith, length-append}
use Rattle.std.specs.Global.{Vec}
use Rattle.rs_records.specs.Buffer.{Gains}

pub Gains-append : (old mid new : Vec ℕ) (first second : List ℕ) → Gains old mid first → Gains mid new second
    → Gains old new (first ++ second)
Gains-append old mid new first second before after =
    record {
      items = after.items ∙ ap (λ octets. octets ++ second) before.items ∙ append_assoc old.items first second;
      len = omega (arith, length-append first second);
      capacity = omega arith;
    }
