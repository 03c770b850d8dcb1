-- What the reading of a configuration rests on: how lengths are written, keys among known ones, and lists that grow by one item.
use Rattle.std.proofs.Common.{◌≡◌, ◌∙◌, ◌<◌, ◌≤◌, ◌+◌, ◌*◌, ◌/◌, ◌%◌, ◌==◌, ℕ, true, List, [], ◌∷◌, ◌++◌, length, map, take, get_or, codes}
use Rattle.std.proofs.Common.{Option, None, Some, append_assoc, decimal, Bor, sym, ap, refl, arith}
use Rattle.std.proofs.lemmas.Fmt.{decimal_digit, decimal_step}
use Rattle.std.proofs.lemmas.List.Sums.{split_at_first, passes_at_first}
use Rattle.std.proofs.lemmas.Bool.{eqb-true}
use Rattle.std.proofs.lemmas.List.{get_or-map, length-map}
use Rattle.std.proofs.lemmas.List.Folds.{Any-from_list_any}
use Rattle.std.proofs.lemmas.Option.{same_Some}
use Rattle.std.proofs.lemmas.Slice.Eq.{bytes_eq-Decides}
use Rattle.std.specs.List.{AllZip, Contains, list_any, position_or_len, before_first, after_first}
use Rattle.std.specs.Prelude.{IfSome, MatchOption}
use Rattle.std.specs.Str.{bytes_eq}
use Rattle.toml.specs.Data.{Data, string, as_str, Items, no_items, item, push_item, Members}
use Rattle.toml.specs.View.{items_of}
use Rattle.std.specs.Prelude.{string_bytes}
use Rattle.rs_choice.specs.Plan.{Peer, Plan, peer_of}
use Rattle.rs_import.specs.Import.{no_import}
use Rattle.rs_setup.specs.Import.{AreLists}
use Rattle.rs_setup.specs.Peers.{IsAdded}
use Rattle.rs_setup.specs.Setup.{ArePeers, IsBegin, IsPeer, IsSetup, texts_in}
use Rattle.rs_setup.specs.Values.{AreAll}
use Rattle.rs_setup.specs.declared.peers.Peers.{Peers}

-- a number of two digits is written by them
pub decimal-two : (tens ones : ℕ) → 1 ≤ tens → tens < 10 → ones < 10 → decimal (10 * tens + ones) ≡ (48 + tens) ∷ (48 + ones) ∷ []
decimal-two tens ones low high below =
    let front : (10 * tens + ones) / 10 ≡ tens = omega arith in
    let last : (10 * tens + ones) % 10 ≡ ones = omega arith in
    decimal_step (10 * tens + ones) (omega arith) (omega arith)
    ∙ rw (front, last, decimal_digit tens high) refl

-- lists of one and of two octets
pub one_octet : (octets : List ℕ) → 1 ≤ length octets → length octets < 2 → octets ≡ get_or octets 0 0 ∷ []
one_octet [] some few = absurd (omega arith)
one_octet (x ∷ []) some few = refl
one_octet (x ∷ y ∷ octets) some few = absurd (omega arith)

pub two_octets : (octets : List ℕ) → 2 ≤ length octets → length octets < 3 → octets ≡ get_or octets 0 0 ∷ get_or octets 1 0 ∷ []
two_octets [] some few = absurd (omega arith)
two_octets (x ∷ []) some few = absurd (omega arith)
two_octets (x ∷ y ∷ []) some few = refl
two_octets (x ∷ y ∷ z ∷ octets) some few = absurd (omega arith)

-- a text is what stands before its first slash, the slash, and what stands after it
pub split_at_slash : (text : List ℕ) → position_or_len (λ octet. octet == 47) text < length text
    → text ≡ before_first (λ octet. octet == 47) text ++ codes "/" ++ after_first (λ octet. octet == 47) text
split_at_slash text found =
    let place = position_or_len (λ octet. octet == 47) text in
    let slash : get_or text place 0 ≡ 47 = eqb-true (get_or text place 0) 47 (passes_at_first (λ octet. octet == 47) text 0 found) in
    split_at_first (λ octet. octet == 47) text 0 found ∙ rw slash
    (sym (append_assoc (take place text) (47 ∷ []) (after_first (λ octet. octet == 47) text)))

-- the same of the parts that a split at the first slash gives
pub parts_at_slash : (text : List ℕ) (parts : Option (Bor (List ℕ) × Bor (List ℕ)))
    → MatchOption parts (position_or_len (λ octet. octet == 47) text ≡ length text)
    (λ both. (both.0.now ≡ before_first (λ octet. octet == 47) text) × (both.1.now ≡ after_first (λ octet. octet == 47) text)
    × (position_or_len (λ octet. octet == 47) text < length text))
    → IfSome parts (λ both. text ≡ both.0.now ++ codes "/" ++ both.1.now)
parts_at_slash text None none = tt
parts_at_slash text (Some both) (front, back, found) = rw (front, back) (split_at_slash text found)

-- a key that is equal to a known one is among them
pub known_key : (known : List (Bor (List ℕ))) (key : List ℕ) → list_any (λ one. bytes_eq one.now key) known ≡ true
    → Contains (map (λ one. one.now) known) key
known_key known key found =
    let (place, one, within, is, same) = Any-from_list_any (λ (one : Bor (List ℕ)). bytes_eq one.now key) known found in (
      place,
      omega (arith, length-map known (λ (one : Bor (List ℕ)). one.now)),
      get_or-map (λ (one : Bor (List ℕ)). one.now) known place one key within ∙ ap (λ (one : Bor (List ℕ)). one.now) is
          ∙ (bytes_eq-Decides one.now key).0 same,
    )

-- a value whose text there is is that text
pub as_str-string : (value : Data) (text : List ℕ) → as_str value ≡ Some text → value ≡ string text
as_str-string (string one) text found = ap string (same_Some one text found)
as_str-string value text found = cc

-- one more text of a list
pub items_of-push : (texts : List (List ℕ)) (text : List ℕ)
    → items_of (map string (texts ++ text ∷ [])) ≡ push_item (items_of (map string texts)) (string text)
items_of-push [] text = refl
items_of-push (first ∷ texts) text = ap (item (string first)) (items_of-push texts text)

-- one more value of a list
pub AreAll-push : {A : Type 0} (Is : Data → A → Type 0) (values : Items) (found : List A) (value : Data) (one : A)
    → AreAll Is values found → Is value one → AreAll Is (push_item values value) (found ++ one ∷ [])
AreAll-push Is no_items [] value one all is = (is, tt)
AreAll-push Is no_items (x ∷ found) value one all is = absurd all
AreAll-push Is (item first values) [] value one all is = absurd all
AreAll-push Is (item first values) (x ∷ found) value one all is = (all.0, AreAll-push Is values found value one all.1 is)

-- two lists with one more element each
pub AllZip-push : {A B : Type 0} (R : A → B → Type 0) (xs : List A) (ys : List B) (x : A) (y : B) → AllZip R xs ys → R x y
    → AllZip R (xs ++ x ∷ []) (ys ++ y ∷ [])
AllZip-push R [] [] x y all one = (one, tt)
AllZip-push R [] (b ∷ ys) x y all one = absurd all
AllZip-push R (a ∷ xs) [] x y all one = absurd all
AllZip-push R (a ∷ xs) (b ∷ ys) x y all one = (all.0, AllZip-push R xs ys x y all.1 one)

-- one more peer of a list
pub ArePeers-push : (values : Items) (peers : List Peer) (files : List (List ℕ)) (value : Data) (peer : Peer) (file : List ℕ)
    → ArePeers values peers files → IsPeer value peer file → ArePeers (push_item values value) (peers ++ peer ∷ []) (files ++ file ∷ [])
ArePeers-push no_items [] [] value peer file so_far is = (is, tt)
ArePeers-push (item first values) (one ∷ peers) (path ∷ files) value peer file so_far is =
    (so_far.0, ArePeers-push values peers files value peer file so_far.1 is)
ArePeers-push values peers files value peer file so_far is = absurd so_far

-- one more peer that was added to those so far
pub added : (values : Items) (before after : Peers) (value : Data)
    → ArePeers values (map peer_of before.specs.items) (map string_bytes before.files.items)
    × AreAll IsBegin values (map texts_in before.begins.items)
    × AreAll AreLists values before.lists.items
    → IsAdded before after value
    → ArePeers (push_item values value) (map peer_of after.specs.items) (map string_bytes after.files.items)
    × AreAll IsBegin (push_item values value) (map texts_in after.begins.items)
    × AreAll AreLists (push_item values value) after.lists.items
added values before after value (are, begin, all) one =
    rw (one.peers, one.files, one.begins, one.all_lists) (
      ArePeers-push values (map peer_of before.specs.items) (map string_bytes before.files.items) value one.peer one.file are one.is_peer,
      AreAll-push IsBegin values (map texts_in before.begins.items) value one.begin begin one.is_begin,
      AreAll-push AreLists values before.lists.items value one.lists all one.are_lists,
    )

-- a plan that is set up by a text alone asks nothing on import
pub asks_nothing : {keys : Members} {files : List (List ℕ)} (plan : Plan) → IsSetup keys plan files
    → IsSetup keys (record plan { import = no_import }) files
asks_nothing plan set_up =
    record { known = set_up.known; server = set_up.server; peers = set_up.peers; import = refl }
