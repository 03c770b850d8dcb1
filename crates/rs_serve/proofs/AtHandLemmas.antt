-- What is given of files at hand says what the files say: for runs over files in rs_floor and rs_run.
use Rattle.std.proofs.Common.{◌≡◌, ◌∙◌, sym, ap, refl, ℕ, suc, arith, inl, inr, List, [], ◌∷◌, ◌++◌, length, map, Some}
use Rattle.std.specs.Prelude.{slice_get}
use Rattle.std.specs.List.{zip}
use Rattle.rs_mrt.specs.Reader.{ReadEnd, FileEnds}
use Rattle.rs_session.specs.FileChanges.{changes_in_by, passed_in_by}
use Rattle.rs_session.specs.Given.{IsGiven}
use Rattle.rs_types.specs.declared.peer_id.PeerId.{PeerId}
use Rattle.rs_update.specs.declared.errors.Errors.{Errors}
use Rattle.rs_serve.proofs.FileLemmas.{front-says}

-- a reader gives just these octets, and then the file ends
abbrev pub GivesJust : {R : Type 0} → (R → List ℕ → ReadEnd → Type 0) → R → List ℕ → Type 0
GivesJust gives reader whole = (octets : List ℕ) (end : ReadEnd) → gives reader octets end → (octets ≡ whole) × (end ≡ FileEnds)

-- two files say the same of a peer
pub record SaysSame (errors : Errors) (peer : PeerId) (file whole : List ℕ) : Type 0 where
  pub changes : changes_in_by errors peer file ≡ changes_in_by errors peer whole
  pub passed : passed_in_by errors peer file ≡ passed_in_by errors peer whole

-- what is given of a file at hand says what the file says
pub given-whole : {R : Type 0} (gives : R → List ℕ → ReadEnd → Type 0) (errors : Errors) (peer : PeerId) (reader : R)
    (file whole : List ℕ) → GivesJust gives reader whole → IsGiven gives errors peer reader file → SaysSame errors peer file whole
given-whole gives errors peer reader file whole just (inl given) =
    let e : file ≡ whole = (just file FileEnds given.given).0 in
    record { changes = ap (changes_in_by errors peer) e; passed = ap (passed_in_by errors peer) e }
given-whole gives errors peer reader file whole just (inr close) =
    let e : file ++ close.later ≡ whole = (just (file ++ close.later) close.end close.given).0 in
    let s = front-says errors peer file close.later close.closes in
    record { changes = sym s.0 ∙ ap (changes_in_by errors peer) e; passed = sym s.1 ∙ ap (passed_in_by errors peer) e }

-- what is made of peers and files is the same of other files, where it is so at each place
pub same-zipped : {P R X : Type 0} (make : P → List ℕ → X) (f : R → List ℕ) (peers : List P) (readers : List R)
    (files : List (List ℕ)) → length files ≡ length readers
    → ((place : ℕ) (peer : P) (reader : R) (file : List ℕ) → slice_get peers place ≡ Some peer → slice_get readers place ≡ Some reader
    → slice_get files place ≡ Some file → make peer file ≡ make peer (f reader))
    → map (λ (peer, file). make peer file) (zip peers files) ≡ map (λ (peer, file). make peer file) (zip peers (map f readers))
same-zipped make f [] readers files as_many at = refl
same-zipped make f (p ∷ ps) [] [] as_many at = refl
same-zipped make f (p ∷ ps) [] (o ∷ os) as_many at = absurd (omega (arith, as_many))
same-zipped make f (p ∷ ps) (r ∷ rs) [] as_many at = absurd (omega (arith, as_many))
same-zipped make f (p ∷ ps) (r ∷ rs) (o ∷ os) as_many at =
    let first : make p o ≡ make p (f r) = at 0 p r o refl refl refl in
    let later : map (λ (peer, file). make peer file) (zip ps os) ≡ map (λ (peer, file). make peer file) (zip ps (map f rs)) =
    same-zipped make f ps rs os (omega (arith, as_many))
    (λ place peer reader file peer_at reader_at file_at. at (suc place) peer reader file peer_at reader_at file_at) in
    cc
