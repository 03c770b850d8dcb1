-- The items of an OPEN, one after another.
use Rattle.std.proofs.Common.{◌≡◌, ℕ, ◌<◌, ◌≤◌, List, [], ◌∷◌, length, drop, ltb, Option, Some, None, ap, ◌∙◌, arith, inl, inr, length-drop}
use Rattle.std.specs.Option.{option_or}
use Rattle.std.proofs.lemmas.Bool.{cases_Bool}
use Rattle.rs_types.proofs.fields.PartsLemmas.{Shrinks, parts_of-some, parts_of-none}
use Rattle.rs_inventory.specs.Opening.{ItemContent, first_found, item_at, items_of}

length-drop-le : (n : ℕ) (octets : List ℕ) → length (drop n octets) ≤ length octets
length-drop-le n octets = omega (arith, length-drop n octets)

abbrev behind : Option (ItemContent × List ℕ) → List ℕ
behind None = []
behind (Some split) = split.1

item_shorter : (octets : List ℕ) (item : ItemContent) (rest : List ℕ) → item_at octets ≡ Some (item, rest) → length rest < length octets
item_shorter [] item rest e = absurd (cc e)
item_shorter (kind ∷ []) item rest e = absurd (cc e)
item_shorter (kind ∷ len ∷ octets) item rest e =
    elim (cases_Bool (ltb (length octets) len)) [
      | inl short ↦ absurd (cc (rw short at e))
      | inr whole ↦
          let same : drop len octets ≡ rest = ap (λ (o : Option (ItemContent × List ℕ)). behind o) (rw whole at e) in
          let less = length-drop-le len octets in
          rw (← same) (omega (arith, less))
    ]

pub item_shrinks : Shrinks item_at
item_shrinks = record { shrinks = item_shorter }

-- where the item in front answers, that is the first answer
pub found_in_front : {Y : Type 0} (ask : ItemContent → Option Y) (octets : List ℕ) (item : ItemContent) (rest : List ℕ) (answer : Y)
    → item_at octets ≡ Some (item, rest) → ask item ≡ Some answer → first_found ask (items_of octets) ≡ Some answer
found_in_front ask octets item rest answer e found =
    let items = ap (λ (p : List ItemContent × List ℕ). first_found ask p.0) (parts_of-some item_at item_shrinks octets item rest e) in
    items ∙ ap (λ o. option_or o (first_found ask (items_of rest))) found

-- where it doesn't, that of those behind it is
pub found_behind : {Y : Type 0} (ask : ItemContent → Option Y) (octets : List ℕ) (item : ItemContent) (rest : List ℕ)
    → item_at octets ≡ Some (item, rest) → ask item ≡ None → first_found ask (items_of octets) ≡ first_found ask (items_of rest)
found_behind ask octets item rest e none =
    let items = ap (λ (p : List ItemContent × List ℕ). first_found ask p.0) (parts_of-some item_at item_shrinks octets item rest e) in
    items ∙ ap (λ o. option_or o (first_found ask (items_of rest))) none

-- where there is no item, none answers
pub found_nowhere : {Y : Type 0} (ask : ItemContent → Option Y) (octets : List ℕ) → item_at octets ≡ None
    → first_found ask (items_of octets) ≡ None
found_nowhere ask octets none = ap (λ (p : List ItemContent × List ℕ). first_found ask p.0) (parts_of-none item_at octets none)
