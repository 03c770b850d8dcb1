use Rattle.std.proofs.Common.{◌≡◌, ◌++◌, ◌∷◌, [], List, ℕ, Some, subst, sym, ap, ◌∙◌, rules, cond, length, None}
use Rattle.std.specs.Prelude.{◌==◌, Bool}
use Rattle.std.specs.BTreeMap.{is_at}
use Rattle.std.specs.Ordering.{nat_cmp}
use Rattle.rs_types.specs.declared.peer_id.PeerId.{PeerId}
use Rattle.rs_share.specs.Reach.{FitsFields, IsDirectory, key_of, place_at}
use Rattle.rs_share.proofs.DirectoryLemmas.{is-at-equal, none-at, one-more}
use Rattle.rs_share.proofs.directory.Directory.add.Goals as goal

pub invariant_of-self-2 : goal.invariant_of-self-2
invariant_of-self-2 c =
    let peers = c.self.inside.peers.items in
    let peer = c.args.peer in
    let count : c.len-place.result ≡ length peers = search rules in
    let fits : FitsFields peer = search rules in
    let absent : place_at c.self.inside.places.entries (key_of peer) ≡ None =
    ap (place_at c.self.inside.places.entries) (sym c.key_of.ensures)
    ∙ none-at (place_at c.self.inside.places.entries c.key_of.result) (sym c.contains_key.ensures ∙ c.if-contains_key.false) in
    let told : (key : ℕ) → place_at c.insert.new.self.entries key
    ≡ cond (is_at (nat_cmp c.key_of-2.result) key) (Some c.len-place.result) (place_at c.self.inside.places.entries key) =
    search rules in
    let is : (key : ℕ) → place_at c.insert.new.self.entries key
    ≡ cond (key_of peer == key) (Some (length peers)) (place_at c.self.inside.places.entries key) =
    λ key. told key
    ∙ ap (λ (k : ℕ). cond (is_at (nat_cmp k) key) (Some c.len-place.result) (place_at c.self.inside.places.entries key)) c.key_of-2.ensures
    ∙ ap (λ (b : Bool). cond b (Some c.len-place.result) (place_at c.self.inside.places.entries key)) (is-at-equal (key_of peer) key)
    ∙ ap (λ (n : ℕ). cond (key_of peer == key) (Some n) (place_at c.self.inside.places.entries key)) count in
    let items : c.push_reserved.new.self.items ≡ peers ++ peer ∷ [] = search rules in
    subst (λ (ps : List PeerId). IsDirectory ps (place_at c.insert.new.self.entries)) (sym items)
    (one-more peers (place_at c.self.inside.places.entries) (place_at c.insert.new.self.entries) peer c.self.invariant fits
    absent is)
