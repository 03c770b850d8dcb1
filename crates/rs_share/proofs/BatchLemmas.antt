-- A record that is added to a batch: for batch.rt.
use Rattle.std.proofs.Common.{◌≡◌, ◌≤◌, ℕ, ◌+◌, ◌-◌, List, [], ◌∷◌, ◌++◌, All, length, map, drop, take, refl, ap, ◌∙◌, arith}
use Rattle.std.proofs.Common.{length-drop}
use Rattle.std.specs.Prelude.{slice_range}
use Rattle.std.proofs.lemmas.List.{take-append-le, drop-append-le, take_all, map-append}
use lib.Seq.{drop-append_seam}
use Rattle.std.proofs.lemmas.List.Elements.{All-head, All-tail}
use Rattle.rs_share.specs.Batches.{IsWithin, heard_in}
use Rattle.rs_share.specs.declared.batch.Head.{Head}

-- ---- octets

-- a part of the front stays the same
range-front : (octets more : List ℕ) (start end : ℕ) → start ≤ end → end ≤ length octets
    → slice_range (octets ++ more) start end ≡ slice_range octets start end
range-front octets more start end ordered within =
    ap (take (end - start)) (drop-append-le start octets more (omega (arith, ordered, within)))
    ∙ take-append-le (end - start) (drop start octets) more
    (let rest = length-drop start octets in omega (arith, rest, ordered, within))

-- the part behind the front
range-seam : (octets body : List ℕ) (start end : ℕ) → start ≡ length octets → end ≡ length octets + length body
    → slice_range (octets ++ body) start end ≡ body
range-seam octets body start end at_start at_end =
    ap (λ n. take (end - n) (drop n (octets ++ body))) at_start
    ∙ ap (take (end - length octets)) (drop-append_seam octets body)
    ∙ take_all (end - length octets) body (omega (arith, at_end))

-- ---- records

-- the records that a batch has stay the same
pub heads-same : (octets more : List ℕ) (hs : List Head) → All (IsWithin octets) hs
    → map (heard_in (octets ++ more)) hs ≡ map (heard_in octets) hs
heads-same octets more [] all = refl
heads-same octets more (h ∷ hs) all =
    let within = All-head (IsWithin octets) h hs all in
    ap (λ (body : List ℕ). record {
      others = h.others;
      own = record { time = h.time; kind = h.kind; subtype = h.subtype; body = body };
    } ∷ map (heard_in (octets ++ more)) hs) (range-front octets more h.start h.end within.0 within.1)
    ∙ ap (λ rest. heard_in octets h ∷ rest) (heads-same octets more hs (All-tail (IsWithin octets) h hs all))

pub pushed : (octets body : List ℕ) (hs : List Head) (h : Head) → All (IsWithin octets) hs → h.start ≡ length octets
    → h.end ≡ length octets + length body
    → map (heard_in (octets ++ body)) (hs ++ h ∷ [])
    ≡ map (heard_in octets) hs ++ record {
      others = h.others;
      own = record { time = h.time; kind = h.kind; subtype = h.subtype; body = body };
    } ∷ []
pushed octets body hs h all at_start at_end =
    map-append (heard_in (octets ++ body)) hs (h ∷ [])
    ∙ ap (λ front. front ++ heard_in (octets ++ body) h ∷ []) (heads-same octets body hs all)
    ∙ ap (λ (octets_of : List ℕ). map (heard_in octets) hs ++ record {
      others = h.others;
      own = record { time = h.time; kind = h.kind; subtype = h.subtype; body = octets_of };
    } ∷ []) (range-seam octets body h.start h.end at_start at_end)
