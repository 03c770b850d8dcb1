-- One turn of the reader of a shared recording: for reader.rt.
use Rattle.std.proofs.Common.{◌≡◌, ◌≤◌, ◌<◌, ℕ, ◌+◌, true, false, List, [], ◌∷◌, ◌++◌, Option, Some, None, Ok, Err}
use Rattle.std.proofs.Common.{refl, subst, sym, ◌∙◌, arith, length, length-append, append_assoc}
use Rattle.std.proofs.lemmas.List.{append-nil}
use Rattle.rs_mrt.specs.Record.{MrtRecord, octets_of}
use Rattle.rs_mrt.specs.Source.{Advances, SomethingComes}
use Rattle.rs_mrt.specs.declared.fault.SourceFault.{SourceFault}
use Rattle.rs_share.specs.Reading.{AreAtMore, AreEnded, AreSameLines, IsReading, TellMore}
use Rattle.rs_share.specs.Telling.{Comes, octets_in}
use Rattle.rs_share.specs.declared.reader.Reader.{Reader}
use Rattle.rs_share.proofs.TakingLemmas.{octets-append, octets-cons}

-- there are no more records than octets
length-octets : (rs : List MrtRecord) → length rs ≤ octets_in rs
length-octets [] = omega arith
length-octets (r ∷ rs) = let a = octets-cons r rs in let b = length-octets rs in omega (arith, a, b)

-- a source that goes on shows a record
pub shown-record : {S : Type 0} (comes : Comes S) (old new : S) (shown : Option MrtRecord) → Advances comes old new shown (Ok true)
    → (r : MrtRecord) × (shown ≡ Some r)
shown-record comes old new (Some r) advances = (r, refl)
shown-record comes old new None advances = absurd advances

-- what came of the source, if it ended
pub ended-with : {S : Type 0} (comes : Comes S) (old new : S) (shown : Option MrtRecord) → Advances comes old new shown (Ok false)
    → comes old [] None
ended-with comes old new (Some r) advances = advances.1
ended-with comes old new None advances = advances.1

pub failed-with : {S : Type 0} (comes : Comes S) (old new : S) (shown : Option MrtRecord) (fault : SourceFault)
    → Advances comes old new shown (Err fault) → comes old [] (Some fault)
failed-with comes old new (Some r) fault advances = advances.1
failed-with comes old new None fault advances = advances.1

module _ {S : Type 0} (comes : Comes S) (room : S → ℕ) (reader : Reader S) (is : IsReading comes room reader) where
  -- the number of records is far from its limit
  pub count-fits : reader.count < 18446744073709551615
  count-fits =
      let a = length-octets is.given in
      let b = is.octets in
      let c = is.few in
      let d = is.counted in
      omega (arith, a, b, c, d)

  pub are-ended : (end : Option SourceFault) → comes reader.source [] end
      → AreEnded comes room reader.lines.items reader.count end
  are-ended end come place line at goes = record {
    given = is.given;
    come = subst (λ (s : S). comes s is.given end) (sym (is.are_of place line at))
        (subst (λ (rs : List MrtRecord). comes is.source rs end) (append-nil is.given) (is.walked [] end come));
    octets = subst (λ (s : S). octets_in is.given ≤ room s) (sym (is.are_of place line at))
        (let b = is.octets in omega (arith, b));
    tells = is.tell place line at;
    counted = is.counted;
  }

  module _ (source : S) (r : MrtRecord) (advances : Advances comes reader.source source (Some r) (Ok true))
      (fewer : room source + octets_of (Some r) ≤ room reader.source) where
    more-walked : (later : List MrtRecord) (end : Option SourceFault) → comes source later end
        → comes is.source ((is.given ++ r ∷ []) ++ later) end
    more-walked later end come =
        subst (λ (rs : List MrtRecord). comes is.source rs end) (sym (append_assoc is.given (r ∷ []) later))
        (is.walked (r ∷ later) end (advances later end come))

    more-octets : octets_in (is.given ++ r ∷ []) + room source ≤ room is.source
    more-octets =
        let a = octets-append is.given (r ∷ []) in
        let b = octets-cons r [] in
        let c = is.octets in
        omega (arith, a, b, c, fewer)

    pub are-at-more : SomethingComes (comes source) → AreAtMore comes room reader.lines.items reader.count r
    are-at-more some = record {
      source = is.source;
      given = is.given;
      may = record {
        later = r ∷ some.0;
        end = some.1;
        come = is.walked (r ∷ some.0) some.1 (advances some.0 some.1 some.2);
        octets = let c = is.octets in omega (arith, c);
      };
      more = record {
        later = some.0;
        end = some.1;
        come = more-walked some.0 some.1 some.2;
        octets = let c = more-octets in omega (arith, c);
      };
      tell = is.tell;
      are_of = is.are_of;
      counted = is.counted;
    }

    -- after the record was handed out
    pub is-reading-more : (new : Reader S) → new.source ≡ source → new.directory ≡ reader.directory → new.count ≡ reader.count + 1
        → TellMore reader.lines.items new.lines.items reader.count r → AreSameLines reader.lines.items new.lines.items
        → IsReading comes room new
    is-reading-more new source_is directory_is count_is tells same = record {
      source = is.source;
      given = is.given ++ r ∷ [];
      walked = λ later end come. more-walked later end (subst (λ (s : S). comes s later end) source_is come);
      octets = subst (λ (s : S). octets_in (is.given ++ r ∷ []) + room s ≤ room is.source) (sym source_is) more-octets;
      few = is.few;
      tell = tells is.given is.counted is.tell;
      are_of = same.sources is.source is.are_of;
      counted = let a = length-append is.given (r ∷ []) in let b = is.counted in omega (arith, a, b, count_is);
      ids = same.ids ∙ is.ids ∙ sym directory_is;
    }
