-- A configuration sets up one exchange at most: each value stands for one thing at most, so does each key, and so does each table.
use Rattle.std.proofs.Common.{◌≡◌, ◌∙◌, ℕ, Bool, pos, List, [], ◌∷◌, ◌++◌, map, codes, decimal, Option, None, Some, sym, ap, refl, subst}
use Rattle.std.proofs.Common.{append_assoc, drop, lit≤, arith}
use Rattle.std.proofs.lemmas.Fmt.{decimal_injective}
use Rattle.std.proofs.NetLemmas.Ipv4.{read_ipv4_complete}
use Rattle.std.proofs.NetLemmas.Options.{same_parts}
use Rattle.std.specs.Int.{w32, from_be_bytes}
use Rattle.std.specs.Net.Reader.{read_ipv4}
use Rattle.std.specs.Prelude.{IsSomeAnd, MatchOption}
use Rattle.toml.specs.Data.{Data, integer, string, boolean, array, table, Items, no_items, item, Members, get_member}
use Rattle.toml.specs.View.{items_of}
use Rattle.rs_choice.specs.Plan.{Peer}
use Rattle.rs_choice.specs.declared.plan.Local.{Local}
use Rattle.rs_update.specs.IpPrefix.{IpPrefix}
use Rattle.rs_update.specs.Prefix.{network_of}
use Rattle.rs_setup.specs.Setup.{ArePeers, ArePeersOf, IsBegin, IsPeer, IsPeerOf, IsServer, IsServerOf}
use Rattle.rs_setup.specs.Laws.{BeginsOnce, SetsUpOnce}
use Rattle.rs_setup.specs.Values.{AreAll, AreListed, IsAddress, IsBoolean, IsDottedAddress, IsSlashedSubnet, IsSomeSubnet, IsSubnet, IsText, IsTexts}
use Rattle.rs_setup.specs.Values.{IsWholeNumber}

-- a value stands for one thing at most
abbrev StandsForOne : {A : Type 0} → (Data → A → Type 0) → Type 0
StandsForOne {A} StandsFor = (value : Data) (x y : A) → StandsFor value x → StandsFor value y → x ≡ y

number_once : StandsForOne IsWholeNumber
number_once value x y h k =
    let same : integer (pos x) ≡ integer (pos y) = sym h.0 ∙ k.0 in
    cc

boolean_once : StandsForOne IsBoolean
boolean_once value x y h k =
    let same : boolean x ≡ boolean y = sym h ∙ k in
    cc

text_once : StandsForOne IsText
text_once value x y h k =
    let same : string x ≡ string y = sym h ∙ k in
    cc

list_once : (xs ys : List (List ℕ)) → items_of (map string xs) ≡ items_of (map string ys) → xs ≡ ys
list_once [] [] same = refl
list_once [] (y ∷ ys) same = cc
list_once (x ∷ xs) [] same = cc
list_once (x ∷ xs) (y ∷ ys) same =
    let first : x ≡ y = cc in
    let rest : items_of (map string xs) ≡ items_of (map string ys) = cc in
    let later = list_once xs ys rest in
    cc

texts_once : StandsForOne IsTexts
texts_once value xs ys h k =
    let same : array (items_of (map string xs)) ≡ array (items_of (map string ys)) = sym h ∙ k in
    let inside : items_of (map string xs) ≡ items_of (map string ys) = cc in
    list_once xs ys inside

dotted_once : (text : List ℕ) (x y : ℕ) → IsDottedAddress text x → IsDottedAddress text y → x ≡ y
dotted_once text x y (octets, dotted, is) (others, also, are) =
    let (equal, _) = same_parts octets others [] [] (sym (read_ipv4_complete text octets [] dotted (lit≤ tt))
    ∙ read_ipv4_complete text others [] also (lit≤ tt)) in
    is ∙ ap (from_be_bytes w32) equal ∙ sym are

-- so does a value that is a text
by_text : {A : Type 0} (Writes : List ℕ → A → Type 0) → ((text : List ℕ) (x y : A) → Writes text x → Writes text y → x ≡ y)
    → StandsForOne (λ value x. (text : List ℕ) × (value ≡ string text) × Writes text x)
by_text Writes once value x y (text, is, written) (other, are, also) =
    let same : string text ≡ string other = sym is ∙ are in
    let equal : text ≡ other = cc in
    once other x y (subst (λ one. Writes one x) equal written) also

address_once : StandsForOne IsAddress
address_once = by_text IsDottedAddress dotted_once

slashed_once : (text : List ℕ) (x y : IpPrefix) → IsSlashedSubnet text x → IsSlashedSubnet text y → x ≡ y
slashed_once text x y (front, address, len, spelled, (octets, dotted, is), small, prefix)
    (start, place, size, written, (others, also, are), low, other) =
    let one : text ≡ front ++ (47 ∷ decimal len) = spelled ∙ append_assoc front (47 ∷ []) (decimal len) in
    let two : text ≡ start ++ (47 ∷ decimal size) = written ∙ append_assoc start (47 ∷ []) (decimal size) in
    let same = same_parts octets others (47 ∷ decimal len) (47 ∷ decimal size)
    (sym (read_ipv4_complete front octets (47 ∷ decimal len) dotted (lit≤ tt))
    ∙ ap read_ipv4 (sym one ∙ two)
    ∙ read_ipv4_complete start others (47 ∷ decimal size) also (lit≤ tt)) in
    let addresses : address ≡ place = is ∙ ap (from_be_bytes w32) same.0 ∙ sym are in
    let sizes : len ≡ size = decimal_injective len size (omega arith) (omega arith) (ap (drop 1) same.1) in
    prefix ∙ ap (λ a. network_of a len) addresses ∙ ap (network_of place) sizes ∙ sym other

subnet_once : StandsForOne IsSubnet
subnet_once = by_text IsSlashedSubnet slashed_once

some_subnet_once : StandsForOne IsSomeSubnet
some_subnet_once value None y h k = absurd h
some_subnet_once value (Some x) None h k = absurd k
some_subnet_once value (Some x) (Some y) h k = ap Some (subnet_once value x y h k)

-- what is found at a key stands for one thing at most
found_once : {A : Type 0} (StandsFor : Data → A → Type 0) → StandsForOne StandsFor → (found : Option Data) (x y : A)
    → IsSomeAnd found (λ value. StandsFor value x) → IsSomeAnd found (λ value. StandsFor value y) → x ≡ y
found_once StandsFor once None x y h k = absurd h
found_once StandsFor once (Some value) x y h k = once value x y h k

-- and so does what is found or else is a default
default_once : {A : Type 0} (StandsFor : Data → A → Type 0) → StandsForOne StandsFor → (found : Option Data) (default other x y : A)
    → default ≡ other
    → MatchOption found (x ≡ default) (λ value. StandsFor value x) → MatchOption found (y ≡ other) (λ value. StandsFor value y) → x ≡ y
default_once StandsFor once None default other x y same h k = h ∙ same ∙ sym k
default_once StandsFor once (Some value) default other x y same h k = once value x y h k

server_once : (keys : Members) (x y : Local) (large other : Bool) → IsServerOf keys x large → IsServerOf keys y other
    → (x ≡ y) × (large ≡ other)
server_once keys x y large other h k =
    let asn : x.asn ≡ y.asn = found_once IsWholeNumber number_once (get_member (codes "as") keys) _ _ h.asn k.asn in
    let address : x.address ≡ y.address = found_once IsAddress address_once (get_member (codes "address") keys) _ _ h.address k.address in
    let id : x.id ≡ y.id = default_once IsAddress address_once (get_member (codes "id") keys) _ _ _ _ address h.id k.id in
    let subnet : x.subnet ≡ y.subnet =
    default_once IsSomeSubnet some_subnet_once (get_member (codes "subnet") keys) _ _ _ _ refl h.subnet k.subnet in
    let counted : large ≡ other =
    default_once IsBoolean boolean_once (get_member (codes "large_communities") keys) _ _ _ _ refl h.large_communities
    k.large_communities in
    (λ i. record { asn = asn i; address = address i; id = id i; subnet = subnet i }, counted)

peer_once : (keys : Members) (x y : Peer) (file other : List ℕ) → IsPeerOf keys x file → IsPeerOf keys y other → (x ≡ y) × (file ≡ other)
peer_once keys x y file other h k =
    let name : x.name ≡ y.name = found_once IsText text_once (get_member (codes "name") keys) _ _ h.name k.name in
    let asn : x.asn ≡ y.asn = found_once IsWholeNumber number_once (get_member (codes "as") keys) _ _ h.asn k.asn in
    let address : x.address ≡ y.address = found_once IsAddress address_once (get_member (codes "address") keys) _ _ h.address k.address in
    let id : x.id ≡ y.id = default_once IsAddress address_once (get_member (codes "id") keys) _ _ _ _ address h.id k.id in
    let preference : x.preference ≡ y.preference =
    default_once IsWholeNumber number_once (get_member (codes "preference") keys) _ _ _ _ refl h.preference k.preference in
    let refuse_from : x.refuse_from ≡ y.refuse_from =
    default_once IsTexts texts_once (get_member (codes "refuse_from") keys) _ _ _ _ refl h.refuse_from k.refuse_from in (
      λ i. record { name = name i; asn = asn i; address = address i; id = id i; preference = preference i; refuse_from = refuse_from i },
      found_once IsText text_once (get_member (codes "file") keys) _ _ h.file k.file,
    )

server_table_once : StandsForOne IsServer
server_table_once value (x, large) (y, other) (keys, is, server) (others, are, also) =
    let same : table keys ≡ table others = sym is ∙ are in
    let equal : keys ≡ others = cc in
    let both = server_once others x y large other (subst (λ (one : Members). IsServerOf one x large) equal server) also in
    λ i. (both.0 i, both.1 i)

peer_table_once : (value : Data) (x y : Peer) (file other : List ℕ) → IsPeer value x file → IsPeer value y other → (x ≡ y) × (file ≡ other)
peer_table_once value x y file other (keys, is, peer) (others, are, also) =
    let same : table keys ≡ table others = sym is ∙ are in
    let equal : keys ≡ others = cc in
    peer_once others x y file other (subst (λ (one : Members). IsPeerOf one x file) equal peer) also

peers_once : (values : Items) (xs ys : List Peer) (files others : List (List ℕ)) → ArePeers values xs files → ArePeers values ys others
    → (xs ≡ ys) × (files ≡ others)
peers_once no_items [] [] [] [] h k = (refl, refl)
peers_once (item value values) (x ∷ xs) (y ∷ ys) (file ∷ files) (other ∷ others) h k =
    let here = peer_table_once value x y file other h.0 k.0 in
    let later = peers_once values xs ys files others h.1 k.1 in (
      ap (λ (one : Peer). one ∷ xs) here.0 ∙ ap (λ (more : List Peer). y ∷ more) later.0,
      ap (λ (one : List ℕ). one ∷ files) here.1 ∙ ap (λ (more : List (List ℕ)). other ∷ more) later.1,
    )
peers_once no_items [] ys [] others h k = absurd k
peers_once (item value values) (x ∷ xs) ys (file ∷ files) others h k = absurd k
peers_once values xs ys files others h k = absurd h

peers_of_once : StandsForOne ArePeersOf
peers_of_once value (xs, files) (ys, others) (values, is, peers) (items, are, also) =
    let same : array values ≡ array items = sym is ∙ are in
    let equal : values ≡ items = cc in
    let both = peers_once items xs ys files others (subst (λ (one : Items). ArePeers one xs files) equal peers) also in
    λ i. (both.0 i, both.1 i)

begin_once : StandsForOne IsBegin
begin_once value xs ys (keys, is, begin) (others, are, also) =
    let same : table keys ≡ table others = sym is ∙ are in
    let equal : keys ≡ others = cc in
    default_once IsTexts texts_once (get_member (codes "begin") others) _ _ _ _ refl
    (subst (λ (one : Members). MatchOption (get_member (codes "begin") one) (xs ≡ []) (λ value. IsTexts value xs)) equal begin) also

all_once : (values : Items) (xs ys : List (List (List ℕ))) → AreAll IsBegin values xs → AreAll IsBegin values ys → xs ≡ ys
all_once no_items [] [] h k = refl
all_once (item value values) (x ∷ xs) (y ∷ ys) h k =
    let here : x ≡ y = begin_once value x y h.0 k.0 in
    let later : xs ≡ ys = all_once values xs ys h.1 k.1 in
    cc
all_once no_items [] (y ∷ ys) h k = absurd k
all_once (item value values) (x ∷ xs) [] h k = absurd k
all_once values xs ys h k = absurd h

listed_once : StandsForOne (AreListed IsBegin)
listed_once value xs ys (values, is, all) (items, are, also) =
    let same : array values ≡ array items = sym is ∙ are in
    let equal : values ≡ items = cc in
    all_once items xs ys (subst (λ (one : Items). AreAll IsBegin one xs) equal all) also

pub begins_once : BeginsOnce
begins_once keys begins others h k =
    default_once (AreListed IsBegin) listed_once (get_member (codes "peer") keys) _ _ _ _ refl h k

pub setup_once : SetsUpOnce
setup_once keys plan other files others h k =
    let server : (plan.local, plan.large_communities) ≡ (other.local, other.large_communities) =
    found_once IsServer server_table_once (get_member (codes "server") keys) _ _ h.server k.server in
    let both : (plan.peers, files) ≡ (other.peers, others) =
    default_once ArePeersOf peers_of_once (get_member (codes "peer") keys) _ _ _ _ refl h.peers k.peers in
    let import : plan.import ≡ other.import = h.import ∙ sym k.import in (
      λ i. record { local = (server i).0; peers = (both i).0; large_communities = (server i).1; import = import i },
      λ i. (both i).1,
    )
