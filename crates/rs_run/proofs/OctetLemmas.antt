-- A run over octets that are at hand: for `run_over_octets`.
use mathlib.Core.List.{map-map}
use Rattle.std.proofs.Common.{◌≡◌, ◌∙◌, sym, ap, subst, ℕ, Bor, List, [], ◌++◌, Some, length, map}
use Rattle.std.specs.Prelude.{slice_get}
use Rattle.rs_choice.specs.Plan.{Peer, Plan, id_of}
use Rattle.rs_mrt.specs.MemoryReading.{MemoryReading, Comes}
use Rattle.rs_outlet.specs.Outlet.{Grows, KeptDump}
use Rattle.rs_patience.proofs.PlaceLemmas.{get-map, map-get}
use Rattle.rs_serve.proofs.AtHandLemmas.{GivesJust, SaysSame, given-whole, same-zipped}
use Rattle.rs_serve.specs.AtHand.{whole_of}
use Rattle.rs_serve.specs.Served.{tables_of}
use Rattle.rs_serve.specs.declared.ended.PeerEnd.{PeerEnd}
use Rattle.rs_session.specs.Change.{Change}
use Rattle.rs_session.specs.FileChanges.{changes_in_by, passed_in_by}
use Rattle.rs_session.specs.Given.{AreGiven}
use Rattle.rs_types.specs.declared.peer_id.PeerId.{PeerId}
use Rattle.rs_table.specs.Content.{TablesContent}
use Rattle.rs_update.specs.declared.errors.Errors.{Errors}
use Rattle.rs_run.specs.Recorded.{tables_of_files}
use Rattle.rs_run.specs.Report.{report_of, report_of_files}
use Rattle.rs_run.specs.Run.{dumps_of_files}
use Rattle.rs_run.specs.SessionEnd.{end_in, ends_of_files, reason_in}
use Rattle.rs_keep.specs.Kept.{dumps_of}

-- files that say the same of a peer say that its session ended alike
end-same : (errors : Errors) (peer : PeerId) (file whole : List ℕ) → SaysSame errors peer file whole
    → end_in errors peer file ≡ end_in errors peer whole
end-same errors peer file whole same =
    let told : List Change → ℕ → PeerEnd =
    λ changes passed. record { changes = length changes; passed = passed; reason = reason_in changes } in
    ap (λ (changes : List Change). told changes (passed_in_by errors peer file)) same.changes
    ∙ ap (told (changes_in_by errors peer whole)) same.passed

module _ (errors : Errors) (plan : Plan) (files : List (Bor (List ℕ))) (readers : List MemoryReading)
    (are : readers ≡ map (λ file. whole_of file.now) files) (given : List (List ℕ))
    (is : AreGiven Comes errors (map id_of plan.peers) readers given) where
  abbrev left : MemoryReading → List ℕ
  left reader = reader.left

  abbrev octets : List (List ℕ)
  octets = map (λ file. file.now) files

  -- a reader of a whole file gives just that
  whole-gives : (file : List ℕ) → GivesJust Comes (whole_of file) file
  whole-gives file some end comes = comes

  gives-just : (place : ℕ) (reader : MemoryReading) → slice_get readers place ≡ Some reader → GivesJust Comes reader reader.left
  gives-just place reader at =
      let made = map-get (λ (file : Bor (List ℕ)). whole_of file.now) files place reader
      (sym (ap (λ (all : List MemoryReading). slice_get all place) are) ∙ at) in
      subst (λ (r : MemoryReading). GivesJust Comes r r.left) made.1.1 (whole-gives made.0.now)

  says-same : (place : ℕ) (peer : Peer) (reader : MemoryReading) (file : List ℕ) → slice_get plan.peers place ≡ Some peer
      → slice_get readers place ≡ Some reader → slice_get given place ≡ Some file → SaysSame errors (id_of peer) file reader.left
  says-same place peer reader file peer_at reader_at file_at =
      given-whole Comes errors (id_of peer) reader file reader.left (gives-just place reader reader_at)
      (is.each place (id_of peer) reader file (get-map id_of plan.peers place peer peer_at) reader_at file_at)

  read-octets : map left readers ≡ octets
  read-octets = ap (map left) are ∙ map-map left (λ (file : Bor (List ℕ)). whole_of file.now) files

  -- what was read leaves the tables that the octets leave, and sessions ended as they say
  same-tables : tables_of_files errors plan given ≡ tables_of_files errors plan octets
  same-tables =
      ap (tables_of plan) (same-zipped (λ (peer : Peer) (file : List ℕ). changes_in_by errors (id_of peer) file) left plan.peers readers
      given is.as_many (λ place peer reader file p r f. (says-same place peer reader file p r f).changes))
      ∙ ap (tables_of_files errors plan) read-octets

  same-ends : ends_of_files errors plan given ≡ ends_of_files errors plan octets
  same-ends =
      same-zipped (λ (peer : Peer) (file : List ℕ). end_in errors (id_of peer) file) left plan.peers readers given is.as_many
      (λ place peer reader file p r f. end-same errors (id_of peer) file reader.left (says-same place peer reader file p r f))
      ∙ ap (ends_of_files errors plan) read-octets

  -- the dumps of what was read are those of the octets, and so is the report
  pub octets-dumped : (time : ℕ) (before later : List KeptDump) → before ≡ []
      → Grows (Some before) (Some later) (dumps_of_files errors plan given time) → later ≡ dumps_of_files errors plan octets time
  octets-dumped time before later none grown =
      grown ∙ ap (λ (kept : List KeptDump). kept ++ dumps_of_files errors plan given time) none
      ∙ ap (λ (tables : TablesContent). dumps_of tables time) same-tables

  pub octets-reported : (before later : List ℕ) → before ≡ [] → later ≡ before ++ report_of_files errors plan given
      → later ≡ report_of_files errors plan octets
  octets-reported before later none grown =
      grown ∙ ap (λ (taken : List ℕ). taken ++ report_of_files errors plan given) none
      ∙ ap (λ (ends : List PeerEnd). report_of plan ends (tables_of_files errors plan given)) same-ends
      ∙ ap (report_of plan (ends_of_files errors plan octets)) same-tables
