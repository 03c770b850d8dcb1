-- What octets that come in pieces say of the octets that may still arrive: for inlet.rt, and `find_front` of record_reader.rt.
use Rattle.std.proofs.Common.{◌≡◌, ◌≢◌, ℕ, zero, suc, ◌+◌, ◌-◌, ◌≤◌, ◌<◌, List, [], ◌∷◌, ◌++◌, length, take, Result, Ok, Err, Bool, true}
use Rattle.std.proofs.Common.{false, refl, sym, ap, subst, ◌∙◌, append_assoc, arith, inr, length-append}
use Rattle.std.specs.Prelude.{nat_lt, if◌then◌else◌}
use Rattle.std.proofs.lemmas.Bool.{lt-ltb, le-ltb}
use Rattle.std.proofs.lemmas.Bool.Decides.{nat_tests}
use Rattle.std.proofs.lemmas.List.{append-nil, take_all, take-append-le, length-take-le}
use Rattle.std.proofs.Math.Seq.{take-append-add}
use Rattle.rs_mrt.specs.declared.stream.Failed.{Failed}
use Rattle.rs_mrt.specs.Reader.{ReadEnd, FileEnds, ReadFails, ReadGives, SomethingIsGiven}
use Rattle.rs_mrt.specs.RecordReading.{Inflow, MayArrive, read_limit}
use Rattle.rs_mrt.specs.Inflow.{Behind, CountsCall, Draws, Fills, Forgets, Skips, gave_some}

-- ---- the limit

-- a number is below another just where both may lose as much
same_test : (n a b c : ℕ) → c ≡ n + b → nat_lt a b ≡ nat_lt (n + a) c
same_test n a b c e = grind (arith, nat_tests)

module _ {R : Type 0} (gives : R → List ℕ → ReadEnd → Type 0) where
  -- the end of the file may be next
  arrive-end : (inflow : Inflow R) → inflow.came < read_limit → gives inflow.reader [] FileEnds → MayArrive gives inflow [] FileEnds
  arrive-end inflow below given =
      let most = read_limit - inflow.came in
      let some : nat_lt 0 most ≡ true = lt-ltb 0 most (omega arith) in
      record {
        all = [];
        last = FileEnds;
        given = given;
        cut = sym (take_all most [] (omega arith));
        ends =
            ap (λ (b : Bool). if b then FileEnds else ReadFails) (sym some);
      }

  -- at the limit a failed read is next
  pub arrive-full : (inflow : Inflow R) → inflow.came ≡ read_limit → SomethingIsGiven (gives inflow.reader)
      → MayArrive gives inflow [] ReadFails
  arrive-full inflow full some =
      let none : read_limit - inflow.came ≡ 0 = omega arith in
      let test : nat_lt (length some.0) (read_limit - inflow.came) ≡ false =
      le-ltb (length some.0) (read_limit - inflow.came) (omega arith) in
      record {
        all = some.0;
        last = some.1;
        given = some.2;
        cut = ap (λ (k : ℕ). take k some.0) (sym none);
        ends = ap (λ (b : Bool). if b then some.1 else ReadFails) (sym test);
      }

  -- a piece that came is in front of what may come later
  arrive-piece : (old new : Inflow R) (piece : List ℕ) → length piece ≤ read_limit - old.came → new.came ≡ old.came + length piece
      → ((later : List ℕ) (end : ReadEnd) → gives new.reader later end → gives old.reader (piece ++ later) end)
      → (later : List ℕ) (end : ReadEnd) → MayArrive gives new later end → MayArrive gives old (piece ++ later) end
  arrive-piece old new piece fits came behind later end may =
      let left = read_limit - new.came in
      let most : length piece + left ≡ read_limit - old.came = omega arith in
      let test : nat_lt (length may.all) left ≡ nat_lt (length (piece ++ may.all)) (read_limit - old.came) =
      same_test (length piece) (length may.all) left (read_limit - old.came) (sym most)
      ∙ ap (λ (n : ℕ). nat_lt n (read_limit - old.came)) (sym (length-append piece may.all)) in
      record {
        all = piece ++ may.all;
        last = may.last;
        given = behind may.all may.last may.given;
        cut = ap (λ (z : List ℕ). piece ++ z) may.cut ∙ sym (take-append-add piece may.all left)
            ∙ ap (λ (k : ℕ). take k (piece ++ may.all)) most;
        ends = may.ends ∙ ap (λ (b : Bool). if b then may.last else ReadFails) test;
      }

  -- a call that gave octets to a part of the piece, whose rest stayed
  pub arrive-given : (old new : Inflow R) (n : ℕ) (part rest : List ℕ) → 0 < length part → length part ≤ read_limit - old.came
      → n ≤ length part
      → new.came ≡ old.came + n → ReadGives (gives old.reader) (gives new.reader) (Ok n) part
      → Behind (MayArrive gives old) (MayArrive gives new) (take n (part ++ rest)) (gave_some (Ok n))
  arrive-given old new zero [] rest some fits bound came given = absurd (omega arith)
  arrive-given old new zero (octet ∷ octets) rest some fits bound came given = arrive-end old (omega arith) given
  arrive-given old new (suc n) part rest some fits bound came given =
      let front = take (suc n) part in
      let same : take (suc n) (part ++ rest) ≡ front = take-append-le (suc n) part rest bound in
      let len : length front ≡ suc n = length-take-le (suc n) part bound in
      subst (λ (z : List ℕ). Behind (MayArrive gives old) (MayArrive gives new) z (Ok true)) (sym same)
      (arrive-piece old new front (omega arith) (omega arith) given)

-- ---- one step after another

Behind-then : (old mid new : List ℕ → ReadEnd → Type 0) (p q : List ℕ) (r : Result Bool Failed) → Behind old mid p (Ok true)
    → Behind mid new q r → Behind old new (p ++ q) r
Behind-then old mid new p q (Ok true) first second =
    λ later end may. subst (λ (z : List ℕ). old z end) (sym (append_assoc p q later)) (first (q ++ later) end (second later end may))
Behind-then old mid new p q (Ok false) first second = first q FileEnds second
Behind-then old mid new p q (Err failed) first second = first q ReadFails second

module _ {R : Type 0} (gives : R → List ℕ → ReadEnd → Type 0) (failures : R → ℕ) where
  -- one piece after another came
  pub Draws-then : (old mid new : Inflow R) (p q : List ℕ) (r : Result Bool Failed) → Draws gives failures old mid p (Ok true)
      → Draws gives failures mid new q r
      → Draws gives failures old new (p ++ q) r
  Draws-then old mid new p q r first second =
      record {
        behind = Behind-then (MayArrive gives old) (MayArrive gives mid) (MayArrive gives new) p q r first.behind second.behind;
        came = omega (arith, first.came, second.came, length-append p q);
        within = second.within;
        counts = subst (λ (n : ℕ). CountsCall n (failures new.reader) new.came r) first.counts second.counts;
        at_limit = λ full. second.at_limit (omega (arith, full, first.came, first.within)) ∙ first.at_limit full;
      }

  counts_given : (n before after came : ℕ) → after ≡ before → CountsCall before after came (gave_some (Ok n))
  counts_given zero before after came same = same
  counts_given (suc n) before after came same = same

  -- a call of the reader gave octets to a part of the piece
  pub Draws-read : (old new : Inflow R) (n : ℕ) (part rest : List ℕ) → 0 < length part → length part ≤ read_limit - old.came
      → old.came ≤ read_limit → n ≤ length part
      → new.came ≡ old.came + n → failures new.reader ≡ failures old.reader → ReadGives (gives old.reader) (gives new.reader) (Ok n) part
      → Draws gives failures old new (take n (part ++ rest)) (gave_some (Ok n))
  Draws-read old new n part rest some fits within bound came counts given =
      let len : length (take n (part ++ rest)) ≡ n = length-take-le n (part ++ rest) (omega (arith, length-append part rest)) in
      record {
        behind = arrive-given gives old new n part rest some fits bound came given;
        came = omega arith;
        within = omega arith;
        counts = counts_given n (failures old.reader) (failures new.reader) new.came counts;
        at_limit = λ full. absurd (omega (arith, full, some, fits));
      }

  -- it isn't called at the limit
  pub Draws-full : (inflow : Inflow R) (failed : Failed) → inflow.came ≡ read_limit → SomethingIsGiven (gives inflow.reader)
      → Draws gives failures inflow inflow [] (Err failed)
  Draws-full inflow failed full some =
      record {
        behind = arrive-full gives inflow full some;
        came = omega arith;
        within = omega arith;
        counts = inr (refl, full);
        at_limit = λ again. refl;
      }

  -- ---- a window

  -- nothing came yet
  pub Fills-nothing : (inflow : Inflow R) (held : List ℕ) → inflow.came ≤ read_limit → Fills gives failures inflow inflow held held (Ok true)
  Fills-nothing inflow held within =
      record {
        piece = [];
        filled = sym (append-nil held);
        drawn = record {
          behind = λ later end may. may;
          came = omega arith;
          within = within;
          counts = refl;
          at_limit = λ full. refl;
        };
      }

  pub Fills-then : (old mid new : Inflow R) (before between after : List ℕ) (r : Result Bool Failed)
      → Fills gives failures old mid before between (Ok true)
      → Fills gives failures mid new between after r → Fills gives failures old new before after r
  Fills-then old mid new before between after r first second =
      record {
        piece = first.piece ++ second.piece;
        filled = second.filled ∙ ap (λ (z : List ℕ). z ++ second.piece) first.filled ∙ append_assoc before first.piece second.piece;
        drawn = Draws-then old mid new first.piece second.piece r first.drawn second.drawn;
      }

  -- a read failed; which error says it makes no difference
  pub Fills-failed : (old mid new : Inflow R) (before between after : List ℕ) (failed other : Failed)
      → Fills gives failures old mid before between (Ok true)
      → Fills gives failures mid new between after (Err failed) → Fills gives failures old new before after (Err other)
  Fills-failed old mid new before between after failed other first second =
      let fills = Fills-then old mid new before between after (Err failed) first second in
      record {
        piece = fills.piece;
        filled = fills.filled;
        drawn = record {
          behind = fills.drawn.behind;
          came = fills.drawn.came;
          within = fills.drawn.within;
          counts = fills.drawn.counts;
          at_limit = fills.drawn.at_limit;
        };
      }

  -- ---- octets that are passed over

  -- so many of them came, and these are left
  pub record SoFar (old new : Inflow R) (wanted left : ℕ) : Type 0 where
    pub piece : List ℕ
    pub drawn : Draws gives failures old new piece (Ok true)
    pub counted : length piece + left ≡ wanted

  pub SoFar-then : (old mid new : Inflow R) (wanted left n : ℕ) → SoFar old mid wanted left → Forgets gives failures mid new left (Ok n)
      → (n ≢ 0) → SoFar old new wanted (left - n)
  SoFar-then old mid new wanted left zero first second some = absurd (some refl)
  SoFar-then old mid new wanted left (suc n) first second some =
      record {
        piece = first.piece ++ second.piece;
        drawn = Draws-then old mid new first.piece second.piece (Ok true) first.drawn second.drawn;
        counted = omega (arith, first.counted, second.counted, second.fits, length-append first.piece second.piece);
      }

  -- a read failed; which error says it makes no difference
  pub SoFar-failed : (old mid new : Inflow R) (wanted left : ℕ) (failed other : Failed) → 0 < left → SoFar old mid wanted left
      → Forgets gives failures mid new left (Err failed) → Skips gives failures old new wanted (Err other)
  SoFar-failed old mid new wanted left failed other some first second =
      let drawn = Draws-then old mid new first.piece second.piece (Err failed) first.drawn second.drawn in
      record {
        piece = first.piece ++ second.piece;
        drawn = record {
          behind = drawn.behind;
          came = drawn.came;
          within = drawn.within;
          counts = drawn.counts;
          at_limit = drawn.at_limit;
        };
        most = omega (arith, first.counted, second.empty, length-append first.piece second.piece);
        enough = omega (arith, first.counted, second.empty, length-append first.piece second.piece);
      }
