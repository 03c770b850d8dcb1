-- Attributes out of what is found in a section without fault: for gather.rt, `lacks_mandatory` of update.rt, and the lemmas of the
-- written form and of messages.
use Rattle.std.proofs.Common.{◌≡◌, ℕ, ◌&&◌, Bool, List, [], ◌∷◌, Option, Some}
use Rattle.std.proofs.Common.{refl, sym, ap, ◌∙◌, arith, inl, inr}
use Rattle.std.specs.Prelude.{is_some}
use Rattle.std.specs.List.{filter_map, flat_map, AllByRecursion}
use Rattle.rs_update.specs.declared.found.Found.{Found}
use Rattle.rs_types.specs.declared.values.Aggregator.{Aggregator}
use Rattle.rs_types.specs.declared.values.Origin.{Origin}
use Rattle.rs_update.specs.Found.{Finds, has_mandatory, spelled_section}
use Rattle.rs_types.specs.Gathered.{look, attributes_from, attributes_of}
use Rattle.rs_types.specs.PathAttributes.{PathAttributes, PathSegment, CommunityList, PassedOn}
use Rattle.rs_types.specs.Section.{Item, items_of}
use Rattle.rs_types.specs.Spelling.{written, written_items, spelled_item}
use Rattle.rs_update.proofs.spelling.KeptLemmas.{written_items-kept}
use Rattle.rs_types.proofs.section.KindLemmas.{cases_Option}
use Rattle.rs_types.proofs.section.LookLemmas.{of_three, made_of}
use Rattle.rs_types.proofs.section.SoundLemmas.{AreSound}

pub All-filter_map : {X Y : Type 0} (P : Y → Type 0) (f : X → Option Y) (xs : List X)
    → AllByRecursion (λ x. (y : Y) → f x ≡ Some y → P y) xs → AllByRecursion P (filter_map f xs)
All-filter_map P f [] each = tt
All-filter_map P f (x ∷ xs) each =
    let later = All-filter_map P f xs each.1 in
    elim (cases_Option (f x)) [
      | inl none ↦ rw none later
      | inr some ↦ rw some.1 (each.0 some.0 some.1, later)
    ]

-- ---- the attributes as a whole

pub attributes_of-found : (items : List Item) (origin path next_hop : Item) → look 1 items ≡ Some origin → look 2 items ≡ Some path
    → look 3 items ≡ Some next_hop → attributes_of items ≡ Some (attributes_from items origin path next_hop)
unfolding attributes_of
attributes_of-found items origin path next_hop o p n =
    rw o (rw p (rw n refl))

all_three : (items : List Item) (origin path next_hop : Option Item)
    → (is_some origin && is_some path && is_some next_hop) ≡ is_some (of_three items origin path next_hop)
all_three items origin path next_hop = grind arith

-- a section has the mandatory attributes exactly where it gives a route attributes
pub mandatory_given : {origin path next_hop : Bool} (items : List Item) → origin ≡ is_some (look 1 items) → path ≡ is_some (look 2 items)
    → next_hop ≡ is_some (look 3 items)
    → (origin && path && next_hop) ≡ is_some (attributes_of items)
unfolding attributes_of
mandatory_given items o p n = rw (o, p, n) (all_three items (look 1 items) (look 2 items) (look 3 items))

pub mandatory-found : (found : Found) (section : List ℕ) → Finds found section
    → has_mandatory found ≡ is_some (attributes_of (items_of section))
mandatory-found found section is =
    mandatory_given (items_of section) (is.at_each 1 (omega arith)) (is.at_each 2 (omega arith)) (is.at_each 3 (omega arith))

pub same_attributes : {a a' : Origin} {b b' : List PathSegment} {c c' : ℕ} {d d' : Option ℕ} {e e' : Bool} {f f' : Option Aggregator}
    {g g' : Option CommunityList} {h h' : List PassedOn}
    → a ≡ a' → b ≡ b' → c ≡ c' → d ≡ d' → e ≡ e' → f ≡ f' → g ≡ g' → h ≡ h'
    → ◌≡◌ {A = PathAttributes} (record {
      origin = a;
      path = b;
      next_hop = c;
      med = d;
      atomic = e;
      aggregator = f;
      communities = g;
      others =
          h;
    }) (record { origin = a'; path = b'; next_hop = c'; med = d'; atomic = e'; aggregator = f'; communities = g'; others = h' })
same_attributes p q r s t u v w = cc

-- the written form of the attributes that a section without fault gives is that of the section
pub written-made : (items : List Item) (attributes : PathAttributes) → AreSound items → attributes_of items ≡ Some attributes
    → written attributes ≡ spelled_section items
unfolding written
written-made items attributes sound e =
    let made = made_of items attributes e in
    ap (λ (a : PathAttributes). flat_map spelled_item (written_items a)) (sym made.are)
    ∙ ap (flat_map spelled_item) (written_items-kept items sound made.origin made.path made.next_hop made.has_origin made.has_path
    made.has_next_hop)
