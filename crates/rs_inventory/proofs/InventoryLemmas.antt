-- What records hold with one record more.
use Rattle.std.proofs.Common.{◌≡◌, ◌≤◌, ◌∙◌, sym, ap, subst, refl, ℕ, ◌+◌, Bool, true, cond, List, [], ◌∷◌, ◌++◌, All, length, map, slice_index}
use Rattle.std.proofs.Common.{Option, Some, None, option_map, min, max, arith, inl, inr, append-nil, length-append, ◌⊎◌}
use Rattle.std.specs.List.{Contains, cons_option, count_by}
use Rattle.std.specs.Option.{option_or}
use Rattle.std.specs.Cmp.{Equal-is}
use Rattle.std.proofs.lemmas.Bool.{cases_Bool, cases_lt}
use Rattle.std.proofs.lemmas.Grind.{common_steps}
use Rattle.std.proofs.lemmas.List.{map_push}
use Rattle.std.proofs.lemmas.List.Elements.{All-nil, All-push, All-weaker, Contains-append_left, Contains-push, filter_map-append}
use Rattle.std.proofs.lemmas.List.Sums.{sum_by_push}
use Rattle.rs_inventory.specs.Kind.{is_kind, place_of}
use Rattle.rs_inventory.specs.Opening.{first_found}
use Rattle.rs_inventory.specs.Peer.{PeerContent, TellsMore, Told, counted, peer_content}
use Rattle.rs_inventory.specs.Back.{TellsBack, back_behind, first_back}
use Rattle.rs_inventory.specs.Course.{course_of}
use Rattle.rs_inventory.specs.Inventory.{Content, Holds, TakesNote, WithCounts, earlier_of, first_of, is_content_up, is_note_up, is_one_up}
use Rattle.rs_inventory.specs.Inventory.{known_of, later_of, peer_at, silence_before, sum_of, with_back, with_unnamed}
use Rattle.rs_inventory.specs.Silence.{Watches, is_noted_up, is_some_up, silence_behind, silence_while, watch_with}
use Rattle.rs_inventory.specs.Times.{IsEarliest, IsLatest, known_sum}
use Rattle.rs_inventory.specs.Told.{peer_cmp, same_peer, told_in, told_of}
use Rattle.rs_inventory.specs.Unnamed.{unnamed_by}
use Rattle.rs_inventory.specs.declared.back.Back.{Back}
use Rattle.rs_inventory.specs.declared.finding.Finding.{Finding}
use Rattle.rs_inventory.specs.declared.finding.News.{News}
use Rattle.rs_inventory.specs.declared.finding.Note.{Note}
use Rattle.rs_inventory.specs.declared.kind.Kind.{Kind}
use Rattle.rs_inventory.specs.declared.silence.Watch.{Watch}
use Rattle.rs_types.specs.declared.peer_id.PeerId.{PeerId}
use Rattle.rs_inventory.proofs.BackLemmas.{back-push}
use Rattle.rs_inventory.proofs.PeerLemmas.{counted-more}
use Rattle.rs_inventory.proofs.SilenceLemmas.{watch-push}

-- ---- times

-- the best of some times and of one more, where R orders them
best-push : (R : ℕ → ℕ → Type 0) → ((x : ℕ) → R x x) → ((x y z : ℕ) → R x y → R y z → R x z) → (times : List ℕ) (best time chosen : ℕ)
    → ((chosen ≡ best) × R best time) ⊎ ((chosen ≡ time) × R time best)
    → Contains times best × All (R best) times → Contains (times ++ time ∷ []) chosen × All (R chosen) (times ++ time ∷ [])
best-push R same through times best time chosen (inl before) is =
    rw before.0 (Contains-append_left times (time ∷ []) best is.0, All-push (R best) times time is.1 before.1)
best-push R same through times best time chosen (inr after) is =
    rw after.0 (
      Contains-push times time,
      All-push (R time) times time
          (All-weaker (R best) (R time) (λ x h. through time best x after.1 h) times is.1) (same time),
    )

earliest-push : (times : List ℕ) (first : Option ℕ) (time : ℕ) → IsEarliest times first
    → IsEarliest (times ++ time ∷ []) (Some (earlier_of first time))
earliest-push times None time none = rw none (Contains-push [] time, All-push (λ other. time ≤ other) [] time (All-nil _) (omega arith))
earliest-push times (Some first) time is =
    best-push (λ x y. x ≤ y) (λ x. omega arith) (λ x y z h k. omega arith) times first time (min first time)
    (elim (cases_lt first time) [ inl before ↦ inl (omega arith, omega arith) | inr after ↦ inr (omega arith, after) ]) is

latest-push : (times : List ℕ) (last : Option ℕ) (time : ℕ) → IsLatest times last
    → IsLatest (times ++ time ∷ []) (Some (later_of last time))
latest-push times None time none = rw none (Contains-push [] time, All-push (λ other. other ≤ time) [] time (All-nil _) (omega arith))
latest-push times (Some last) time is =
    best-push (λ x y. y ≤ x) (λ x. omega arith) (λ x y z h k. omega arith) times last time (max last time)
    (elim (cases_lt last time) [ inl before ↦ inr (omega arith, omega arith) | inr after ↦ inl (omega arith, after) ]) is

-- ---- kinds

kinds-push : (kind : Kind) (findings : List Finding) (one : Finding) (count : ℕ)
    → count ≡ counted (count_by (λ f. is_kind kind f.kind) findings)
    → cond (is_kind kind one.kind) (counted (count + 1)) count ≡ counted (count_by (λ f. is_kind kind f.kind) (findings ++ one ∷ []))
kinds-push kind findings one count is =
    rw (sum_by_push (λ (f : Finding). cond (is_kind kind f.kind) 1 0) findings one)
    (elim (cases_Bool (is_kind kind one.kind)) [
      | inl same ↦ rw (same, is) (sym (counted-more (count_by (λ f. is_kind kind f.kind) findings) 1))
      | inr other ↦ rw (other, is) (sym (ap counted (omega arith)))
    ])

-- ---- octets

abbrev plus : Option ℕ → Option ℕ → Option ℕ
plus None other = None
plus (Some n) other = option_map (λ m. n + m) other

plus-assoc : (n : ℕ) (one other : Option ℕ) → option_map (λ m. n + m) (plus one other) ≡ plus (option_map (λ m. n + m) one) other
plus-assoc n None other = refl
plus-assoc n (Some m) None = refl
plus-assoc n (Some m) (Some k) = ap Some (omega arith)

sum-push : (known : List (Option ℕ)) (one : Option ℕ) → known_sum (known ++ one ∷ []) ≡ plus (known_sum known) one
sum-push [] None = refl
sum-push [] (Some n) = ap Some (omega arith)
sum-push (None ∷ later) one = refl
sum-push (Some n ∷ later) one = ap (option_map (λ m. n + m)) (sum-push later one) ∙ plus-assoc n (known_sum later) one

counted-plus : (one other : Option ℕ) → option_map counted (plus one other) ≡ sum_of (option_map counted one) other
counted-plus None other = refl
counted-plus (Some n) None = refl
counted-plus (Some n) (Some m) = ap Some (counted-more n m)

known_sum-push : (known : List (Option ℕ)) (one : Option ℕ)
    → option_map counted (known_sum (known ++ one ∷ [])) ≡ sum_of (option_map counted (known_sum known)) one
known_sum-push known one = ap (option_map counted) (sum-push known one) ∙ counted-plus (known_sum known) one

-- ---- the recorder

first_found-push : {X Y : Type 0} (ask : X → Option Y) (xs : List X) (x : X)
    → first_found ask (xs ++ x ∷ []) ≡ first_of (first_found ask xs) (ask x)
first_found-push ask [] x = elim (ask x) as (λ o. option_or o None ≡ o) [ None ↦ refl | Some y ↦ refl ]
first_found-push ask (y ∷ xs) x =
    elim (ask y) as (λ o. option_or o (first_found ask (xs ++ x ∷ [])) ≡ first_of (option_or o (first_found ask xs)) (ask x)) [
      | None ↦ first_found-push ask xs x
      | Some z ↦ refl
    ]

-- ---- peers

same_peer-true : (x y : PeerId) → same_peer x y ≡ true → x ≡ y
same_peer-true x y e =
    let equal = (Equal-is (peer_cmp x y)).0 e in
    let address : x.address ≡ y.address = grind (arith, common_steps) in
    let asn : x.asn ≡ y.asn = grind (arith, common_steps) in
    λ i. record { address = address i; asn = asn i }

-- what is known of one peer becomes what it is with one record more
pub takes-one : (old new : List (PeerId × PeerContent)) (note : Note) (time : ℕ) (was : Option PeerContent) (now : PeerContent)
    → peer_at old note.peer ≡ was
    → ((peer : PeerId) → peer_at new peer ≡ cond (same_peer note.peer peer) (Some now) (peer_at old peer))
    → ((told : List Told) → was ≡ known_of told → Some now ≡ known_of (told ++ (time, note.news) ∷ [])) → TakesNote old time (Some note) new
takes-one old new note time was now before updates next = λ peer told is.
    elim (cases_Bool (same_peer note.peer peer)) [
      | inl same ↦
          let here : peer_at new peer ≡ Some now = rw same at (updates peer) in
          let one : peer_at old note.peer ≡ peer_at old peer = ap (peer_at old) (same_peer-true note.peer peer same) in
          rw same (here ∙ next told (sym before ∙ one ∙ is))
      | inr other ↦
          let here : peer_at new peer ≡ peer_at old peer = rw other at (updates peer) in
          rw other (here ∙ is ∙ ap known_of (sym (append-nil told)))
    ]

pub next-new : (time : ℕ) (one : News) (now : PeerContent) → TellsMore (peer_content []) time one now → (told : List Told)
    → None ≡ known_of told
    → Some now ≡ known_of (told ++ (time, one) ∷ [])
next-new time one now tells [] none = ap Some (tells [] refl)
next-new time one now tells (t ∷ told) none = absurd (cc none)

-- what is known of each peer, with one record more
peers-push : (findings : List Finding) (one : Finding) (old new : List (PeerId × PeerContent)) → TakesNote old one.time one.note new
    → ((peer : PeerId) → peer_at old peer ≡ known_of (told_of peer findings))
    → (peer : PeerId) → peer_at new peer ≡ known_of (told_of peer (findings ++ one ∷ []))
peers-push findings one old new takes are peer =
    takes peer (told_of peer findings) (are peer)
    ∙ ap known_of (sym (filter_map-append (λ (f : Finding). told_in peer f.time f.note) findings (one ∷ [])))

-- ---- whose session is up

-- the session of a peer is up by what is known of it, as it is by its records
known-up : (told : List Told) → is_content_up (known_of told) ≡ (course_of told).up
unfolding course_of peer_content
known-up [] = refl
known-up (t ∷ told) = refl

note-up : (findings : List Finding) (peers : List (PeerId × PeerContent)) (note : Option Note)
    → ((peer : PeerId) → peer_at peers peer ≡ known_of (told_of peer findings))
    → is_note_up peers note ≡ is_noted_up findings note
note-up findings peers None are = refl
note-up findings peers (Some note) are = ap is_content_up (are note.peer) ∙ known-up (told_of note.peer findings)

one-up : (findings : List Finding) (peers : List (PeerId × PeerContent)) (peer : Option PeerId)
    → ((peer : PeerId) → peer_at peers peer ≡ known_of (told_of peer findings))
    → is_one_up peers peer ≡ is_some_up findings peer
one-up findings peers None are = refl
one-up findings peers (Some peer) are = ap is_content_up (are peer) ∙ known-up (told_of peer findings)

-- what records tell of times without any, with one more
watch-more : (findings : List Finding) (one : Finding) (old : Content) (peers : List (PeerId × PeerContent)) (up : Bool)
    → Holds findings old → TakesNote old.peers one.time one.note peers → up ≡ is_note_up peers one.note
    → Watches (findings ++ one ∷ []) (watch_with one up (silence_before one.time old) old.watch)
watch-more findings one old peers up holds takes is =
    subst (λ (n : ℕ). Watches (findings ++ one ∷ []) (watch_with one up
    (silence_while (is_one_up old.peers old.watch.keeper) (silence_behind old.last one.time old.watch.wait n old.octets)) old.watch))
    (sym holds.records)
    (subst (λ (o : Option ℕ). Watches (findings ++ one ∷ []) (watch_with one up
    (silence_while (is_one_up old.peers old.watch.keeper)
    (silence_behind old.last one.time old.watch.wait (counted (length findings)) o)) old.watch))
    (sym holds.octets)
    (watch-push findings one old.watch old.last (is_one_up old.peers old.watch.keeper) up holds.watch holds.last
    (one-up findings old.peers old.watch.keeper holds.peers ∙ ap (is_some_up findings) holds.watch.keeper)
    (is ∙ note-up (findings ++ one ∷ []) peers one.note (peers-push findings one old.peers peers takes holds.peers))))

-- ---- all

pub holds-more : (findings : List Finding) (one : Finding) (old mid new : Content) (peers : List (PeerId × PeerContent)) (up : Bool)
    → Holds findings old
    → mid ≡ with_back one (with_unnamed one
    (record old { peers = peers; watch = watch_with one up (silence_before one.time old) old.watch }))
    → TakesNote old.peers one.time one.note peers → up ≡ is_note_up peers one.note → WithCounts one mid new
    → Holds (findings ++ one ∷ []) new
holds-more findings one old mid new peers up holds same takes is counts = record {
  records = counts.records ∙ ap (λ (c : Content). counted (c.records + 1)) same ∙ ap (λ n. counted (n + 1)) holds.records
      ∙ sym (counted-more (length findings) 1) ∙ ap counted (sym (length-append findings (one ∷ [])));
  kinds = λ kind. counts.kinds kind ∙ kinds-push kind findings one (slice_index mid.kinds (place_of kind))
      (ap (λ (c : Content). slice_index c.kinds (place_of kind)) same ∙ holds.kinds kind);
  first = subst (λ (o : Option ℕ). IsEarliest (map (λ f. f.time) (findings ++ one ∷ [])) o)
      (sym (counts.first ∙ ap (λ (c : Content). Some (earlier_of c.first one.time)) same))
      (rw (map_push (λ (f : Finding). f.time) findings one) (earliest-push (map (λ f. f.time) findings) old.first one.time holds.first));
  last = subst (λ (o : Option ℕ). IsLatest (map (λ f. f.time) (findings ++ one ∷ [])) o)
      (sym (counts.last ∙ ap (λ (c : Content). Some (later_of c.last one.time)) same))
      (rw (map_push (λ (f : Finding). f.time) findings one) (latest-push (map (λ f. f.time) findings) old.last one.time holds.last));
  octets = counts.octets ∙ ap (λ (c : Content). sum_of c.octets one.octets) same ∙ ap (λ o. sum_of o one.octets) holds.octets
      ∙ sym (known_sum-push (map (λ f. f.octets) findings) one.octets)
      ∙ ap (λ l. option_map counted (known_sum l)) (sym (map_push (λ (f : Finding). f.octets) findings one));
  back = subst (λ (b : Option Back). TellsBack (findings ++ one ∷ []) b)
      (sym (counts.back ∙ ap (λ (c : Content). c.back) same
      ∙ ap (λ (n : ℕ). first_back old.back (back_behind old.last one.time n old.octets)) holds.records
      ∙ ap (λ (o : Option ℕ). first_back old.back (back_behind old.last one.time (counted (length findings)) o)) holds.octets))
      (back-push findings one old.back old.last holds.back holds.last);
  watch = subst (λ (w : Watch). Watches (findings ++ one ∷ []) w) (sym (counts.watch ∙ ap (λ (c : Content). c.watch) same))
      (watch-more findings one old peers up holds takes is);
  unnamed = counts.unnamed ∙ ap (λ (c : Content). c.unnamed) same
      ∙ ap (λ l. l ++ cons_option (unnamed_by one.time one.note) []) holds.unnamed
      ∙ sym (filter_map-append (λ (f : Finding). unnamed_by f.time f.note) findings (one ∷ []));
  recorder = counts.recorder ∙ ap (λ (c : Content). first_of c.recorder one.recorder) same
      ∙ ap (λ o. first_of o one.recorder) holds.recorder
      ∙ sym (first_found-push (λ (f : Finding). f.recorder) findings one);
  peers = λ peer. ap (λ ps. peer_at ps peer) counts.peers ∙ ap (λ (c : Content). peer_at c.peers peer) same
      ∙ peers-push findings one old.peers peers takes holds.peers peer;
}
