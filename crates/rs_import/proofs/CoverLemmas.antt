-- Prefixes that cover one are nested: what stands between one of them and it in the order is covered too.
use Rattle.std.proofs.Common.{◌≡◌, ◌∙◌, sym, ap, subst, refl, ℕ, ◌+◌, ◌-◌, ◌*◌, ◌/◌, ◌^◌, ◌≤◌, ◌<◌, Bool, true, false, List, [], ◌∷◌, ◌++◌, ◌⊎◌, length, map, cond, inl, inr, arith, rules, ◌&&◌}
use Rattle.std.proofs.Common.{slice_index_or}
use Rattle.std.specs.Prelude.{nat_lt, ◌==◌}
use Rattle.std.specs.List.{AllWithin, HoldsAt}
use Rattle.std.proofs.Math.Nat.{div-mul-le_self, mul-div_left}
use Rattle.std.proofs.lemmas.Bool.{and_from, and_parts, cases_lt, cases_order, eq-eqb, eqb-true, le-ltb, ltb-false, both_ways, false_from_ne_true}
use Rattle.std.proofs.lemmas.List.{get_or-map, get_or_default, get_or_append_left, get_or_push, length-map, length_push}
use Rattle.std.proofs.lemmas.Nat.{le-div, pow-add, pow_pos}
use Rattle.rs_types.specs.Covering.{covers}
use Rattle.rs_types.specs.IpPrefix.{IpPrefix}
use Rattle.rs_types.specs.Prefix.{network_of}
use Rattle.rs_types.specs.PrefixOrder.{same_prefix}
use Rattle.rs_import.specs.declared.nesting.Node.{Node}
use Rattle.rs_import.specs.Nesting.{IsLastCover, IsNested, IsNotBefore, IsPassed, IsUpTo, IsWhole, pattern_of, prefix_of, rank_of}
use Rattle.rs_types.specs.declared.pattern.Pattern.{Pattern}
use Rattle.std.specs.List.Sorted.{IsNonDecreasingBy}

same-is : (one other : IpPrefix) → same_prefix one other ≡ ((one.address == other.address) && (one.len == other.len))
same-is one other = search rules

-- a prefix covers another if it is not longer and has the other's first bits
covers-from : (wide q : IpPrefix) → wide.len ≤ q.len → wide.address ≡ q.address / 2 ^ (32 - wide.len) * 2 ^ (32 - wide.len)
    → covers wide q ≡ true
covers-from wide q long is =
    rw (le-ltb q.len wide.len long)
    (same-is wide (network_of q.address wide.len) ∙ and_from _ _ (eq-eqb _ _ is) (eq-eqb wide.len wide.len refl))

pub covers-parts : (wide q : IpPrefix) → covers wide q ≡ true
    → (wide.len ≤ q.len) × (wide.address ≡ q.address / 2 ^ (32 - wide.len) * 2 ^ (32 - wide.len))
covers-parts wide q covering = by_length (nat_lt q.len wide.len) refl covering
  where
    by_length : (b : Bool) → nat_lt q.len wide.len ≡ b → cond b false (same_prefix wide (network_of q.address wide.len)) ≡ true
        → (wide.len ≤ q.len) × (wide.address ≡ q.address / 2 ^ (32 - wide.len) * 2 ^ (32 - wide.len))
    by_length true is e = absurd cc
    by_length false is e = (
      ltb-false q.len wide.len is,
      eqb-true _ _ (and_parts _ _ (sym (same-is wide (network_of q.address wide.len)) ∙ e)).0,
    )

-- first bits of one address are those of each address between
numbers-between : (a b c u : ℕ) → 0 < u → a ≡ b / u * u → a ≤ c → c ≤ b → a ≡ c / u * u
numbers-between a b c u some is low high =
    let up : b / u ≤ c / u = le-div (b / u) c u some (omega (arith, is, low)) in
    let down : c / u ≤ b / u = le-div (c / u) b u some (omega (arith, div-mul-le_self c u, high)) in
    let same : b / u ≡ c / u = omega (arith, up, down) in
    is ∙ ap (λ (n : ℕ). n * u) same

-- where bits past a length are 0, those past a greater length are
cleared-further : (c n l : ℕ) → n ≤ l → l ≤ 32 → c ≡ c / 2 ^ (32 - n) * 2 ^ (32 - n) → c / 2 ^ (32 - l) * 2 ^ (32 - l) ≡ c
cleared-further c n l less within is =
    let split : 32 - n ≡ (l - n) + (32 - l) = omega (arith, less, within) in
    let power : 2 ^ (32 - n) ≡ 2 ^ (l - n) * 2 ^ (32 - l) = ap (λ (k : ℕ). 2 ^ k) split ∙ pow-add 2 (l - n) (32 - l) in
    further (c / 2 ^ (32 - n)) (2 ^ (32 - n)) (2 ^ (l - n)) (2 ^ (32 - l)) power is (pow_pos (32 - l))
  where
    further : (h v w u : ℕ) → v ≡ w * u → c ≡ h * v → 0 < u → c / u * u ≡ c
    further h v w u power front some =
        let product : c ≡ (h * w) * u = front ∙ (ap (λ (k : ℕ). h * k) power ∙ omega (arith)) in
        let quotient : c / u ≡ h * w = ap (λ (k : ℕ). k / u) product ∙ mul-div_left (h * w) some in
        ap (λ (k : ℕ). k * u) quotient ∙ sym product

-- what stands between a prefix that covers one and that one, by its address, is covered too
pub covers-between : (x y q : IpPrefix) → covers x q ≡ true → IsWhole x → IsWhole y → rank_of x ≤ rank_of y → y.address ≤ q.address
    → covers x y ≡ true
covers-between x y q covering whole_x whole rises below =
    let parts = covers-parts x q covering in
    let low : x.address ≤ y.address = omega (arith, rises, whole.0) in
    let inside = numbers-between x.address q.address y.address (2 ^ (32 - x.len)) (pow_pos (32 - x.len)) parts.1 low below in
    let long : x.len ≤ y.len = elim (cases_lt y.len x.len) [
      | inl shorter ↦
          let own = cleared-further y.address y.len x.len (omega (arith, shorter)) whole_x.0 (covers-parts y y whole.1).1 in
          let same : x.address ≡ y.address = inside ∙ own in
          absurd (omega (arith, same, rises, shorter))
      | inr not_shorter ↦ not_shorter
    ] in
    covers-from x y long inside

-- from a node that is not past the prefix, on to its parent: none between covers the prefix
pub passed-to_parent : (nodes : List Node) (q : IpPrefix) (place : ℕ) (d : Node) → IsNested nodes → place < length nodes
    → (slice_index_or nodes place d).address ≤ q.address
    → AllWithin (λ node. covers (prefix_of node) q ≡ false) nodes (slice_index_or nodes place d).parent place
passed-to_parent nodes q place d nested inside below j e from before =
    false_from_ne_true _ (λ covering.
    let at : slice_index_or nodes j e ≡ slice_index_or nodes j d = get_or_default nodes j e d (omega (arith, before, inside)) in
    both_ways _ (nested.between place j d inside from before)
    (covers-between (prefix_of (slice_index_or nodes j d)) (prefix_of (slice_index_or nodes place d)) q
    (subst (λ (node : Node). covers (prefix_of node) q ≡ true) at covering)
    (nested.whole j d (omega (arith, before, inside))) (nested.whole place d inside)
    (nested.ascending j place d (omega (arith, before)) inside) below))

-- addresses ascend
pub addresses-rise : (nodes : List Node) → IsNested nodes → IsNonDecreasingBy (λ node. node.address) nodes
addresses-rise nodes nested i j d before inside = omega (arith, nested.ascending i j d before inside, (nested.whole j d inside).0)

-- one node more is passed, and all between it and its parent
pub passed-more : (nodes : List Node) (q : IpPrefix) (place end : ℕ) (d : Node) → IsNested nodes → place < length nodes
    → (slice_index_or nodes place d).address ≤ q.address → covers (prefix_of (slice_index_or nodes place d)) q ≡ false
    → AllWithin (λ node. covers (prefix_of node) q ≡ false) nodes (place + 1) end
    → AllWithin (λ node. covers (prefix_of node) q ≡ false) nodes (slice_index_or nodes place d).parent end
passed-more nodes q place end d nested inside below apart old j e from before = elim (cases_order j place) [
  | inl same ↦
      let at : slice_index_or nodes j e ≡ slice_index_or nodes place d =
      ap (λ (k : ℕ). slice_index_or nodes k e) same ∙ get_or_default nodes place e d inside in
      ap (λ (node : Node). covers (prefix_of node) q) at ∙ apart
  | inr (inl less) ↦ passed-to_parent nodes q place d nested inside below j e from less
  | inr (inr more) ↦ old j e (omega (arith, more)) before
]

abbrev pub no_node : Node
no_node = record { address = 0; parent = 0; len = 0; least = 0; most = 0 }

-- what is known of nodes, said of patterns
pub patterns-passed : (nodes : List Node) (q : IpPrefix) (count end : ℕ) → end ≤ length nodes → count ≤ end
    → AllWithin (λ node. covers (prefix_of node) q ≡ false) nodes count end → IsPassed (map pattern_of nodes) q count end
patterns-passed nodes q count end within low passed = (
  low,
  λ k e from before.
      ap (λ (pattern : Pattern). covers pattern.prefix q) (get_or-map pattern_of nodes k no_node e (omega (arith, before, within)))
      ∙ passed k no_node from before,
)

pub pattern-covers : (nodes : List Node) (q : IpPrefix) (place : ℕ) (d : Node) → place < length nodes
    → covers (prefix_of (slice_index_or nodes place d)) q ≡ true
    → AllWithin (λ pattern. covers pattern.prefix q ≡ true) (map pattern_of nodes) place (place + 1)
pattern-covers nodes q place d inside covering k e from before =
    let same : k ≡ place = omega (arith, from, before) in
    ap (λ (n : ℕ). covers (slice_index_or (map pattern_of nodes) n e).prefix q) same
    ∙ (ap (λ (pattern : Pattern). covers pattern.prefix q) (get_or-map pattern_of nodes place d e inside) ∙ covering)

-- no address that covers a prefix is above its own
pub covering-below : (wide q : IpPrefix) → covers wide q ≡ true → wide.address ≤ q.address
covering-below wide q covering =
    omega (arith, (covers-parts wide q covering).1, div-mul-le_self q.address (2 ^ (32 - wide.len)))

-- the last node that covers a prefix is the last one of all, if the addresses behind the end are above that of the prefix
pub last_cover-of_all : (nodes : List Node) (q : IpPrefix) (end count : ℕ) → end ≤ length nodes
    → AllWithin (λ node. q.address < node.address) nodes end (length nodes) → IsLastCover (map pattern_of nodes) q end count
    → IsLastCover (map pattern_of nodes) q (length (map pattern_of nodes)) count
last_cover-of_all nodes q end count within above last = (
  (
    omega (arith, last.0.0, within, length-map nodes pattern_of),
    λ k e from before.
        let inside : k < length nodes = omega (arith, before, length-map nodes pattern_of) in
        elim (cases_lt k end) [
          | inl near ↦ last.0.1 k e from near
          | inr far ↦
              false_from_ne_true _ (λ covering.
              let at = ap (λ (pattern : Pattern). covers pattern.prefix q) (get_or-map pattern_of nodes k no_node e inside) in
              absurd (omega (
                arith,
                above k no_node far inside,
                covering-below (prefix_of (slice_index_or nodes k no_node)) q (sym at ∙ covering),
              )))
        ],
  ),
  last.1,
)

-- at a node that covers the prefix: up to its parent no address is above that of the prefix
pub covering-at : (nodes : List Node) (q : IpPrefix) (place : ℕ) (d : Node) → place < length nodes
    → HoldsAt (λ pattern. covers pattern.prefix q ≡ true) (map pattern_of nodes) place
    → covers (prefix_of (slice_index_or nodes place d)) q ≡ true
covering-at nodes q place d inside holds =
    ap (λ (pattern : Pattern). covers pattern.prefix q) (sym (get_or-map pattern_of nodes place d (pattern_of d) inside)) ∙ holds (pattern_of d)

pub up_to-place : (nodes : List Node) (q : IpPrefix) (place end : ℕ) (d : Node) → IsNested nodes → place < length nodes
    → covers (prefix_of (slice_index_or nodes place d)) q ≡ true → end ≤ place → IsUpTo nodes q end
up_to-place nodes q place end d nested inside covering low k e from before =
    omega (
      arith,
      addresses-rise nodes nested k place e (omega (arith, before, low)) inside,
      ap (λ (node : Node). node.address) (get_or_default nodes place e d inside),
      covering-below (prefix_of (slice_index_or nodes place d)) q covering,
    )

-- the last node up to the parent that covers the prefix is the last one before the node
pub last_cover-before : (nodes : List Node) (q : IpPrefix) (place count : ℕ) (d : Node) → IsNested nodes → place < length nodes
    → covers (prefix_of (slice_index_or nodes place d)) q ≡ true
    → IsLastCover (map pattern_of nodes) q (slice_index_or nodes place d).parent count
    → IsLastCover (map pattern_of nodes) q place count
last_cover-before nodes q place count d nested inside covering last =
    let parent = (slice_index_or nodes place d).parent in
    let low : parent ≤ place = nested.before place d inside in
    let passed = patterns-passed nodes q parent place (omega (arith, inside)) low
    (passed-to_parent nodes q place d nested inside (covering-below (prefix_of (slice_index_or nodes place d)) q covering)) in (
      (
        omega (arith, last.0.0, low),
        λ k e from before. elim (cases_lt k parent) [ inl near ↦ last.0.1 k e from near | inr far ↦ passed.1 k e far before ],
      ),
      last.1,
    )

-- a node more, behind all others
pub nested-push : (nodes : List Node) (one : Node) → IsNested nodes → IsWhole (prefix_of one)
    → AllWithin (λ node. rank_of (prefix_of node) ≤ rank_of (prefix_of one)) nodes 0 (length nodes) → one.parent ≤ length nodes
    → AllWithin (λ node. covers (prefix_of node) (prefix_of one) ≡ false) nodes one.parent (length nodes)
    → IsNested (nodes ++ one ∷ [])
nested-push nodes one nested whole behind low apart = record {
  whole = λ k d inside. elim (place k inside) [
    | inl near ↦ rw (old k d near) (nested.whole k d near)
    | inr same ↦ rw (new k d same) whole
  ];
  ascending = λ i k d before inside. elim (place k inside) [
    | inl near ↦ rw (old k d near, old i d (omega (arith, before, near))) (nested.ascending i k d before near)
    | inr same ↦ elim (place i (omega (arith, before, inside))) [
      | inl front ↦ rw (new k d same, old i d front) (behind i d (omega arith) front)
      | inr last ↦ rw (new k d same, new i d last) (omega arith)
    ]
  ];
  before = λ k d inside. elim (place k inside) [
    | inl near ↦ rw (old k d near) (nested.before k d near)
    | inr same ↦ rw (new k d same) (omega (arith, low, same))
  ];
  between = λ k j d inside from before. elim (place k inside) [
    | inl near ↦ rw (old k d near, old j d (omega (arith, before, near)))
        (nested.between k j d near (subst (λ (node : Node). node.parent ≤ j) (old k d near) from) before)
    | inr same ↦ rw (new k d same, old j d (omega (arith, before, same)))
        (apart j d (subst (λ (node : Node). node.parent ≤ j) (new k d same) from) (omega (arith, before, same)))
  ];
}
  where
    place : (k : ℕ) → k < length (nodes ++ one ∷ []) → (k < length nodes) ⊎ (k ≡ length nodes)
    place k inside = elim (cases_lt k (length nodes)) [
      | inl near ↦ inl near
      | inr far ↦ inr (omega (arith, far, inside, length_push nodes one))
    ]

    old : (k : ℕ) (d : Node) → k < length nodes → slice_index_or (nodes ++ one ∷ []) k d ≡ slice_index_or nodes k d
    old k d near = get_or_append_left nodes (one ∷ []) d k near

    new : (k : ℕ) (d : Node) → k ≡ length nodes → slice_index_or (nodes ++ one ∷ []) k d ≡ one
    new k d same = get_or_push nodes one d k (sym same)

-- what is known of patterns, said of nodes
pub nodes-passed : (nodes : List Node) (q : IpPrefix) (count : ℕ) → IsPassed (map pattern_of nodes) q count (length nodes)
    → AllWithin (λ node. covers (prefix_of node) q ≡ false) nodes count (length nodes)
nodes-passed nodes q count passed k d from before =
    ap (λ (pattern : Pattern). covers pattern.prefix q) (sym (get_or-map pattern_of nodes k d (pattern_of d) before))
    ∙ passed.1 k (pattern_of d) from before

pub nodes-behind : (nodes : List Node) (one : Pattern) → IsNotBefore (map pattern_of nodes) one
    → AllWithin (λ node. rank_of (prefix_of node) ≤ rank_of one.prefix) nodes 0 (length nodes)
nodes-behind nodes one order k d from before =
    subst (λ (pattern : Pattern). rank_of pattern.prefix ≤ rank_of one.prefix) (get_or-map pattern_of nodes k d (pattern_of d) before)
    (order k (pattern_of d) from (omega (arith, before, length-map nodes pattern_of)))

pub up_to-behind : (nodes : List Node) (q : IpPrefix) → q.len ≤ 32
    → AllWithin (λ node. rank_of (prefix_of node) ≤ rank_of q) nodes 0 (length nodes) → IsUpTo nodes q (length nodes)
up_to-behind nodes q short behind k d from before = omega (arith, behind k d from before, short)

pub nested-push_at : (nodes : List Node) (one : Node) (q : IpPrefix) → prefix_of one ≡ q → IsNested nodes → IsWhole q
    → AllWithin (λ node. rank_of (prefix_of node) ≤ rank_of q) nodes 0 (length nodes)
    → IsLastCover (map pattern_of nodes) q (length nodes) one.parent
    → IsNested (nodes ++ one ∷ [])
nested-push_at nodes one q same nested whole behind last =
    nested-push nodes one nested (subst IsWhole (sym same) whole)
    (subst (λ (p : IpPrefix). AllWithin (λ node. rank_of (prefix_of node) ≤ rank_of p) nodes 0 (length nodes)) (sym same) behind)
    last.0.0
    (subst (λ (p : IpPrefix). AllWithin (λ node. covers (prefix_of node) p ≡ false) nodes one.parent (length nodes)) (sym same)
    (nodes-passed nodes q one.parent last.0))

pub node-prefix : (one : Node) (q : IpPrefix) → one.address ≡ q.address → one.len ≡ q.len → prefix_of one ≡ q
node-prefix one q address len =
    ap (λ (a : ℕ). prefix_of (record { address = a; parent = 0; len = one.len; least = 0; most = 0 })) address
    ∙ ap (λ (l : ℕ). prefix_of (record { address = q.address; parent = 0; len = l; least = 0; most = 0 })) len
