-- What sessions tell of files in memory of which only some records are read: for `run_over_records`.
use Rattle.std.proofs.Common.{◌≡◌, ◌∙◌, sym, ap, subst, refl, ℕ, zero, suc, ◌+◌, ◌-◌, ◌<◌, ◌⊎◌, inl, inr, arith, true, false}
use Rattle.std.proofs.Common.{List, [], ◌∷◌, ◌++◌, Option, Some, length, map, append_assoc, nat_lt}
use Rattle.std.specs.Prelude.{slice_get}
use Rattle.std.specs.List.{zip}
use Rattle.std.proofs.lemmas.Bool.{cases_Bool, cond-false, cond-true}
use Rattle.std.proofs.lemmas.Option.{slice_get_within}
use Rattle.rs_change.specs.Change.{is_read}
use Rattle.rs_change.specs.declared.word.Reason.{Reason}
use Rattle.rs_change.specs.declared.word.Reason.TheVariants as reasons
use Rattle.rs_choice.specs.Plan.{Peer, Plan, id_of}
use Rattle.rs_losses.specs.Losses.{with_losses}
use Rattle.rs_losses.specs.WithLosses.{ComesFirst, end_within as end_below, within as below}
use Rattle.rs_losses.specs.WithLosses.{shown_by}
use Rattle.rs_losses.specs.declared.losses.Sought.{Sought}
use Rattle.rs_mrt.proofs.PushedLemmas.{at-pushed}
use Rattle.rs_mrt.specs.Bounds.{end_within, records_until}
use Rattle.rs_mrt.specs.Entry.{front_of}
use Rattle.rs_mrt.specs.Leniency.{Leniency}
use Rattle.rs_mrt.specs.MemoryReading.{MemoryReading}
use Rattle.rs_mrt.specs.Record.{MrtRecord, octets_of}
use Rattle.rs_mrt.specs.RecordReading.{RecordReading, read_limit}
use Rattle.rs_mrt.specs.Source.{source_end}
use Rattle.rs_mrt.specs.declared.bounds.FileReading.{FileReading}
use Rattle.rs_mrt.specs.declared.fault.SourceFault.{SourceFault}
use Rattle.rs_mrt.specs.declared.fault.SourceFault.TheVariants.{Read}
use Rattle.rs_mrt.specs.declared.losses.Losses.{Losses}
use Rattle.rs_mrt.specs.declared.losses.Losses.TheVariants.{Recorded, Inferred}
use Rattle.rs_serve.specs.Served.{IsEndOfTold, IsServedAs, ServedContent, tables_of}
use Rattle.rs_serve.specs.declared.ended.PeerEnd.{PeerEnd}
use Rattle.rs_session.proofs.FileChangesLemmas.{changes_of-ends, changes_of-gives, changes_of-nil, changes_of-passes}
use Rattle.rs_session.proofs.FileChangesLemmas.{passed_of-ends, passed_of-gives, passed_of-passes}
use Rattle.rs_session.specs.Change.{Change}
use Rattle.rs_session.specs.Effect.{RecordEffect, PassesOver, Gives, Ends, effect_of}
use Rattle.rs_session.specs.FileChanges.{changes_of, close_at, passed_of}
use Rattle.rs_session.specs.Given.{AreEach}
use Rattle.rs_session.specs.Laws.{ClosesLast, ClosesOnce}
use Rattle.rs_session.specs.Told.{ClosesFor, Tells, Told}
use Rattle.rs_types.specs.declared.peer_id.PeerId.{PeerId}
use Rattle.rs_table.specs.Content.{TablesContent}
use Rattle.rs_update.specs.declared.errors.Errors.{Errors}
use Rattle.rs_patience.proofs.PlaceLemmas.{get-map, some-at}
use Rattle.rs_run.proofs.EndLemmas.{last-same, reason-is, reason-same}
use Rattle.rs_run.specs.OverRecords.{end_told, records_read_so, served_of_records, served_of_told, told_in, told_of_files}
use Rattle.rs_run.specs.OverRecords.{with_losses_by}
use Rattle.rs_run.specs.ReadSo.{AreReadSo, AreShown, IsReadSo, Reading, comes}
use Rattle.rs_run.specs.SessionEnd.{reason_in}

-- ---- records below a limit

module _ (errors : Errors) (peer : PeerId) where
  -- a session over these records, which end so, closes since a read failed
  record ClosesUnread (records : List MrtRecord) (end : Option SourceFault) : Type 0 where
    before : List Change
    splits : changes_of errors peer records end ≡ before ++ close_at 0 reasons.Read ∷ []

  -- a session over these records tells the same as one over the others
  record SaysSame (records others : List MrtRecord) (end last : Option SourceFault) : Type 0 where
    changes : changes_of errors peer records end ≡ changes_of errors peer others last
    passed : passed_of errors peer records ≡ passed_of errors peer others

  abbrev Cut : List MrtRecord → List MrtRecord → Option SourceFault → Option SourceFault → Type 0
  Cut records others end last = SaysSame records others end last ⊎ ClosesUnread records end

  one-more : (r : MrtRecord) (records others : List MrtRecord) (end last : Option SourceFault) (effect : RecordEffect)
      → effect_of errors peer r ≡ effect → Cut records others end last → Cut (r ∷ records) (r ∷ others) end last
  one-more r records others end last PassesOver is (inl same) = inl (record {
    changes = changes_of-passes errors peer r records end is ∙ same.changes ∙ sym (changes_of-passes errors peer r others last is);
    passed = passed_of-passes errors peer r records is ∙ ap (λ (n : ℕ). 1 + n) same.passed
        ∙ sym (passed_of-passes errors peer r others is);
  })
  one-more r records others end last PassesOver is (inr unread) =
      inr (record { before = unread.before; splits = changes_of-passes errors peer r records end is ∙ unread.splits })
  one-more r records others end last (Gives given) is (inl same) = inl (record {
    changes = changes_of-gives errors peer r given records end is ∙ ap (λ (cs : List Change). given ++ cs) same.changes
        ∙ sym (changes_of-gives errors peer r given others last is);
    passed = passed_of-gives errors peer r given records is ∙ same.passed ∙ sym (passed_of-gives errors peer r given others is);
  })
  one-more r records others end last (Gives given) is (inr unread) = inr (record {
    before = given ++ unread.before;
    splits = changes_of-gives errors peer r given records end is ∙ ap (λ (cs : List Change). given ++ cs) unread.splits
        ∙ sym (append_assoc given unread.before (close_at 0 reasons.Read ∷ []));
  })
  one-more r records others end last (Ends reason) is cut = inl (record {
    changes = changes_of-ends errors peer r reason records end is ∙ sym (changes_of-ends errors peer r reason others last is);
    passed = passed_of-ends errors peer r reason records is ∙ sym (passed_of-ends errors peer r reason others is);
  })

  unread-at-once : ClosesUnread [] (Some Read)
  unread-at-once = record { before = []; splits = changes_of-nil errors peer (Some Read) }

  cut-below : (left : ℕ) (all : List MrtRecord) (last : Option SourceFault) → Cut (below left all) all (end_below left all last) last
  cut-below zero [] last = inr unread-at-once
  cut-below (suc left) [] last = inl (record { changes = refl; passed = refl })
  cut-below left (r ∷ later) last =
      let octets = octets_of (Some r) in
      elim (cases_Bool (nat_lt octets left)) [
        | inl fits ↦
            let shown : below left (r ∷ later) ≡ r ∷ below (left - octets) later =
            cond-true (nat_lt octets left) (r ∷ below (left - octets) later) [] fits in
            let ends : end_below left (r ∷ later) last ≡ end_below (left - octets) later last =
            cond-true (nat_lt octets left) (end_below (left - octets) later last) (Some Read) fits in
            rw (shown, ends) (one-more r (below (left - octets) later) later (end_below (left - octets) later last) last
            (effect_of errors peer r) refl (cut-below (left - octets) later last))
        | inr full ↦
            let shown : below left (r ∷ later) ≡ [] = cond-false (nat_lt octets left) (r ∷ below (left - octets) later) [] full in
            let ends : end_below left (r ∷ later) last ≡ Some Read =
            cond-false (nat_lt octets left) (end_below (left - octets) later last) (Some Read) full in
            rw (shown, ends) (inr unread-at-once)
      ]

  -- a session that closes for another reason is not cut
  not-unread : (records : List MrtRecord) (end : Option SourceFault) (changes : List Change) (reason : Reason)
      → changes ≡ changes_of errors peer records end → ClosesFor changes reason → is_read reason ≡ false
      → ClosesUnread records end → ⊥
  not-unread records end changes reason are closes other unread =
      let both : closes.before ++ close_at closes.time reason ∷ [] ≡ unread.before ++ close_at 0 reasons.Read ∷ [] =
      sym closes.splits ∙ are ∙ unread.splits in
      let same : reason ≡ reasons.Read = reason-same closes.time 0 reason reasons.Read
      (last-same closes.before unread.before (close_at closes.time reason) (close_at 0 reasons.Read) both) in
      let read : is_read reason ≡ true = ap is_read same in
      let never : false ≡ true = sym other ∙ read in
      absurd cc

-- ---- one file

-- which records are shown of those that come
pub shown-by : (losses : Losses) (who : Sought) (come : List MrtRecord → Option SourceFault → Type 0) (all : List MrtRecord)
    (last : Option SourceFault) → ((records : List MrtRecord) (end : Option SourceFault) → come records end → records ≡ all)
    → ((records : List MrtRecord) (end : Option SourceFault) → come records end → end ≡ last)
    → (records : List MrtRecord) (end : Option SourceFault) → ComesFirst losses who come records end
    → AreShown losses who all last records end
shown-by Recorded who come all last are ends records end comes = (are records end comes, ends records end comes)
shown-by Inferred who come all last are ends records end comes =
    let same : comes.all ≡ all = are comes.all comes.last comes.given in (
      comes.cut ∙ ap (λ (rs : List MrtRecord). below read_limit (with_losses who rs)) same,
      comes.ends ∙ ap (λ (rs : List MrtRecord). end_below read_limit (with_losses who rs) comes.last) same
          ∙ ap (end_below read_limit (with_losses who all)) (ends comes.all comes.last comes.given),
    )

abbrev shows : Reading → Option MrtRecord
shows w = shown_by w.losses (λ (l : Leniency (RecordReading MemoryReading)). l.source.shown) w

module _ (errors : Errors) (peer : PeerId) (who : Sought) (file : List ℕ) where
  -- the records and the end that come say what those of the file say that are read
  record Says (reading : FileReading) (told : Told) : Type 0 where
    changes : told.changes ≡ (told_in errors reading peer who file).changes
    passed : told.passed ≡ (told_in errors reading peer who file).passed

  abbrev within : FileReading → List MrtRecord
  within reading = map front_of (records_until reading.bounds.until file)

  says : (reading : FileReading) (told : Told) (reason : Reason) → ClosesFor told.changes reason → is_read reason ≡ false
      → (losses : Losses) → reading.losses ≡ losses → (records : List MrtRecord) (end : Option SourceFault)
      → AreShown losses who (within reading) (source_end (end_within reading.bounds file)) records end
      → told.changes ≡ changes_of errors peer records end → told.passed ≡ passed_of errors peer records → Says reading told
  says reading told reason closes other Recorded by records end are changes passed =
      let read : records_read_so reading who file ≡ records =
      ap (λ (l : Losses). with_losses_by l who (within reading)) by ∙ sym are.0 in
      record {
        changes = changes ∙ ap (λ (rs : List MrtRecord). changes_of errors peer rs end) (sym read)
            ∙ ap (changes_of errors peer (records_read_so reading who file)) are.1;
        passed = passed ∙ ap (passed_of errors peer) (sym read);
      }
  says reading told reason closes other Inferred by records end are changes passed =
      let all = with_losses who (within reading) in
      let last = source_end (end_within reading.bounds file) in
      let read : records_read_so reading who file ≡ all = ap (λ (l : Losses). with_losses_by l who (within reading)) by in
      let shown : told.changes ≡ changes_of errors peer (below read_limit all) (end_below read_limit all last) =
      changes ∙ ap (λ (rs : List MrtRecord). changes_of errors peer rs end) are.0
      ∙ ap (changes_of errors peer (below read_limit all)) are.1 in
      elim (cut-below errors peer read_limit all last) [
        | inl same ↦ record {
          changes = shown ∙ same.changes ∙ ap (λ (rs : List MrtRecord). changes_of errors peer rs last) (sym read);
          passed = passed ∙ ap (passed_of errors peer) are.0 ∙ same.passed ∙ ap (passed_of errors peer) (sym read);
        }
        | inr unread ↦ absurd (not-unread errors peer (below read_limit all) (end_below read_limit all last) told.changes reason
            shown closes other unread)
      ]

  -- a session over the file tells what the records say that are read
  pub source-tells : (reading : FileReading) (source : Reading) (told : Told) → IsReadSo reading who file source
      → Tells comes shows errors peer source told → told ≡ told_in errors reading peer who file
  source-tells reading source told so tells =
      let may = tells.may in
      let records = may.may_read.later in
      let first = so records may.end may.may_read.come in
      let changes : told.changes ≡ changes_of errors peer records may.end =
      may.left ∙ ap (λ (rs : List MrtRecord). changes_of errors peer rs may.end) may.may_read.read in
      let counted : told.passed ≡ passed_of errors peer may.records = omega (arith, may.counted) in
      let passed : told.passed ≡ passed_of errors peer records = counted ∙ ap (passed_of errors peer) may.may_read.read in
      let are = says reading told tells.reason tells.closes tells.read reading.losses refl records may.end first changes passed in
      let telling : List Change → ℕ → Told = λ cs n. record { changes = cs; passed = n } in
      ap (λ (cs : List Change). telling cs told.passed) are.changes
      ∙ ap (telling (told_in errors reading peer who file).changes) are.passed

-- ---- all files

-- the next file has its source too
pub one-more-read : (reading : FileReading) (whose : List Sought) (files : List (List ℕ)) (sources : List Reading) (source : Reading)
    (here : Sought) (octets : List ℕ) → AreReadSo reading whose files sources
    → slice_get whose (length sources) ≡ Some here → slice_get files (length sources) ≡ Some octets
    → IsReadSo reading here octets source → AreReadSo reading whose files (sources ++ source ∷ [])
one-more-read reading whose files sources source here octets before at_here at_octets is place who file one at_who at_file at_one =
    elim (at-pushed sources source one place at_one) [
      | inl there ↦ before place who file one at_who at_file there
      | inr last ↦
          let whose_here : Some who ≡ Some here =
          sym at_who ∙ ap (λ (n : ℕ). slice_get whose n) last.0 ∙ at_here in
          let octets_here : Some file ≡ Some octets =
          sym at_file ∙ ap (λ (n : ℕ). slice_get files n) last.0 ∙ at_octets in
          let same_who : here ≡ who = cc in
          let same_file : octets ≡ file = cc in
          subst (λ (w : Sought). IsReadSo reading w file one) same_who
          (subst (λ (f : List ℕ). IsReadSo reading here f one) same_file
          (subst (λ (s : Reading). IsReadSo reading here octets s) last.1 is))
    ]

-- what is made of three lists, place by place
made-of : {A B C D : Type 0} (f : A → B → C → D) (xs : List A) (bs : List B) (cs : List C) (ds : List D) → length bs ≡ length xs
    → length cs ≡ length xs → length ds ≡ length xs
    → ((place : ℕ) (a : A) (b : B) (c : C) (d : D) → slice_get xs place ≡ Some a → slice_get bs place ≡ Some b
    → slice_get cs place ≡ Some c → slice_get ds place ≡ Some d → d ≡ f a b c)
    → ds ≡ map (λ (a, (b, c)). f a b c) (zip xs (zip bs cs))
made-of f [] bs cs [] as_b as_c as_d at = refl
made-of f [] bs cs (d ∷ ds) as_b as_c as_d at = absurd (omega (arith, as_d))
made-of f (a ∷ xs) [] cs ds as_b as_c as_d at = absurd (omega (arith, as_b))
made-of f (a ∷ xs) (b ∷ bs) [] ds as_b as_c as_d at = absurd (omega (arith, as_c))
made-of f (a ∷ xs) (b ∷ bs) (c ∷ cs) [] as_b as_c as_d at = absurd (omega (arith, as_d))
made-of f (a ∷ xs) (b ∷ bs) (c ∷ cs) (d ∷ ds) as_b as_c as_d at =
    let first : d ≡ f a b c = at 0 a b c d refl refl refl refl in
    let later : ds ≡ map (λ (a, (b, c)). f a b c) (zip xs (zip bs cs)) =
    made-of f xs bs cs ds (omega (arith, as_b)) (omega (arith, as_c)) (omega (arith, as_d))
    (λ place a b c d at_a at_b at_c at_d. at (suc place) a b c d at_a at_b at_c at_d) in
    cc

-- what is made of one list, place by place
made-each : {A B : Type 0} (f : A → B) (xs : List A) (bs : List B) → length bs ≡ length xs
    → ((place : ℕ) (a : A) (b : B) → slice_get xs place ≡ Some a → slice_get bs place ≡ Some b → b ≡ f a) → bs ≡ map f xs
made-each f [] [] as_many at = refl
made-each f [] (b ∷ bs) as_many at = absurd (omega (arith, as_many))
made-each f (a ∷ xs) [] as_many at = absurd (omega (arith, as_many))
made-each f (a ∷ xs) (b ∷ bs) as_many at =
    let first : b ≡ f a = at 0 a b refl refl in
    let later : bs ≡ map f xs =
    made-each f xs bs (omega (arith, as_many)) (λ place a b at_a at_b. at (suc place) a b at_a at_b) in
    cc

-- how a session ended follows from what it tells
end-told-is : (told : Told) (reason : Reason) → ClosesFor told.changes reason → reason ≡ reason_in told.changes
    → (end : PeerEnd) → IsEndOfTold told end → end ≡ end_told told
end-told-is told reason closes last end is =
    let same : end.reason ≡ reason =
    reason-same is.closes.time closes.time end.reason reason
    (last-same is.closes.before closes.before (close_at is.closes.time end.reason) (close_at closes.time reason)
    (sym is.closes.splits ∙ closes.splits)) in
    let made : ℕ → ℕ → Reason → PeerEnd = λ n m r. record { changes = n; passed = m; reason = r } in
    ap (λ (n : ℕ). made n end.passed end.reason) is.changes_are ∙ ap (λ (m : ℕ). made (length told.changes) m end.reason) is.passed_are
    ∙ ap (made (length told.changes) told.passed) (same ∙ last)

module _ (errors : Errors) (reading : FileReading) (plan : Plan) (whose : List Sought) (files : List (List ℕ))
    (sources : List Reading) (all : List Told) (count : length sources ≡ length files) (so : AreReadSo reading whose files sources)
    (is : AreEach (Tells comes shows errors) (map id_of plan.peers) sources all) where
  abbrev told-here : Peer → Sought → List ℕ → Told
  told-here peer who file = told_in errors reading (id_of peer) who file

  source-at : (place : ℕ) (told : Told) → slice_get all place ≡ Some told
      → (source : Reading) × (slice_get sources place ≡ Some source)
  source-at place told at =
      let here : place < length sources = omega (arith, slice_get_within all place told at, is.as_many) in
      some-at sources place here

  told-at : (place : ℕ) (peer : Peer) (who : Sought) (file : List ℕ) (told : Told) → slice_get plan.peers place ≡ Some peer
      → slice_get whose place ≡ Some who → slice_get files place ≡ Some file → slice_get all place ≡ Some told
      → told ≡ told-here peer who file
  told-at place peer who file told peer_at who_at file_at told_at =
      let found = source-at place told told_at in
      let read = so place who file found.0 who_at file_at found.1 in
      let tells = is.each place (id_of peer) found.0 told (get-map id_of plan.peers place peer peer_at) found.1 told_at in
      source-tells errors (id_of peer) who file reading found.0 told read tells

  pub all-told : length whose ≡ length plan.peers → length files ≡ length plan.peers
      → all ≡ told_of_files errors reading plan.peers whose files
  all-told as_whose as_files =
      made-of told-here plan.peers whose files all as_whose as_files (is.as_many ∙ count ∙ as_files) told-at

  ended-at : ClosesOnce → (served : ServedContent) → IsServedAs plan all served → length all ≡ length plan.peers
      → (place : ℕ) (told : Told) (end : PeerEnd) → slice_get all place ≡ Some told → slice_get served.ends place ≡ Some end
      → end ≡ end_told told
  ended-at once served so_served as_many place told end told_at end_at =
      let found = source-at place told told_at in
      let here : place < length plan.peers = omega (arith, slice_get_within all place told told_at, as_many) in
      let peer = some-at plan.peers place here in
      let tells = is.each place (id_of peer.0) found.0 told (get-map id_of plan.peers place peer.0 peer.1) found.1 told_at in
      let said : told.changes ≡ changes_of errors (id_of peer.0) tells.may.records tells.may.end = tells.may.left in
      let close : ClosesLast tells.may.end told.changes =
      subst (ClosesLast tells.may.end) (sym said) (once errors (id_of peer.0) tells.may.records tells.may.end) in
      end-told-is told tells.reason tells.closes (reason-is tells.may.end told.changes tells.reason close tells.closes) end
      (so_served.ends_are place told end told_at end_at)

  -- what is served is what the sessions tell of the records that are read
  pub served-of-records : ClosesOnce → length whose ≡ length plan.peers → length files ≡ length plan.peers
      → (served : ServedContent) → IsServedAs plan all served
      → served ≡ served_of_records errors reading plan whose files
  served-of-records once as_whose as_files served so_served =
      let as_many : length all ≡ length plan.peers = is.as_many ∙ count ∙ as_files in
      let ends : served.ends ≡ map end_told all =
      made-each end_told all served.ends (so_served.counted ∙ sym as_many) (ended-at once served so_served as_many) in
      let made : TablesContent → List PeerEnd → ServedContent = λ tables ends. record { tables = tables; ends = ends } in
      ap (λ (tables : TablesContent). made tables served.ends) so_served.tables_are
      ∙ ap (made (tables_of plan (map (λ told. told.changes) all))) ends
      ∙ ap (served_of_told plan) (all-told as_whose as_files)
