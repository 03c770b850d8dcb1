-- Lanes as they are opened, one after another: for `open_lanes` of opening.rt.
use Rattle.std.proofs.Common.{◌≡◌, ◌∙◌, sym, ap, ℕ, ◌+◌, ◌<◌, ◌≤◌, arith, List, [], ◌∷◌, ◌++◌, Bor, length, map, get_or, Some}
use Rattle.std.specs.Prelude.{slice_get}
use Rattle.std.proofs.Math.ListN.{get_or-map}
use Rattle.std.proofs.lemmas.Option.{get_or_from_slice_get, slice_get_within}
use borrow.Author.Count.{below_more}
use Rattle.rs_choice.specs.Plan.{Peer, id_of}
use Rattle.rs_floor.specs.Lane.{LaneContent, fresh_lane}
use Rattle.rs_patience.proofs.PlaceLemmas.{get-front, get-seam}

-- one lane more
pub one-more : (peers : List Peer) (files : List (Bor (List ℕ))) (capacity : ℕ) (lanes : List LaneContent) (lane : LaneContent) (at : ℕ)
    (here : Peer) (none : Bor (List ℕ)) → length lanes ≡ at
    → ((number : ℕ) (peer : Peer) (file : List ℕ) → number < at → slice_get peers number ≡ Some peer
    → slice_get (map (λ file. file.now) files) number ≡ Some file
    → slice_get lanes number ≡ Some (fresh_lane capacity (id_of peer) file))
    → slice_get peers at ≡ Some here → at < length files → lane ≡ fresh_lane capacity (id_of here) (get_or files at none).now
    → (number : ℕ) (peer : Peer) (file : List ℕ) → number < at + 1 → slice_get peers number ≡ Some peer
    → slice_get (map (λ file. file.now) files) number ≡ Some file
    → slice_get (lanes ++ lane ∷ []) number ≡ Some (fresh_lane capacity (id_of peer) file)
one-more peers files capacity lanes lane at here none as_many before is below made number peer file within =
    let octets : List (List ℕ) = map (λ file. file.now) files in
    let P : ℕ → Type 0 =
    λ n. (p : Peer) (f : List ℕ) → slice_get peers n ≡ Some p → slice_get octets n ≡ Some f
    → slice_get (lanes ++ lane ∷ []) n ≡ Some (fresh_lane capacity (id_of p) f) in
    let seam : slice_get (lanes ++ lane ∷ []) at ≡ Some lane = rw (← as_many) (get-seam lanes [] lane) in
    below_more P at (λ n h p f e g. get-front lanes (lane ∷ []) n (omega (arith, as_many)) ∙ before n p f h e g)
    (λ p f e g.
    let same_peer : here ≡ p = cc in
    let same_file : (get_or files at none).now ≡ f =
    sym (get_or-map (λ (file : Bor (List ℕ)). file.now) files at none) ∙ get_or_from_slice_get octets at f none.now g in
    seam ∙ ap Some made ∙ ap (λ (q : Peer). Some (fresh_lane capacity (id_of q) (get_or files at none).now)) same_peer
    ∙ ap (λ (os : List ℕ). Some (fresh_lane capacity (id_of p) os)) same_file)
    number within peer file

-- and all of them
pub all-opened : (peers : List Peer) (files : List (List ℕ)) (capacity : ℕ) (lanes : List LaneContent) (at : ℕ) → length files ≤ at
    → ((number : ℕ) (peer : Peer) (file : List ℕ) → number < at → slice_get peers number ≡ Some peer → slice_get files number ≡ Some file
    → slice_get lanes number ≡ Some (fresh_lane capacity (id_of peer) file))
    → (number : ℕ) (peer : Peer) (file : List ℕ) → slice_get peers number ≡ Some peer → slice_get files number ≡ Some file
    → slice_get lanes number ≡ Some (fresh_lane capacity (id_of peer) file)
all-opened peers files capacity lanes at whole before number peer file e f =
    before number peer file (omega (arith, slice_get_within files number file f)) e f
