-- What the beginning of a session says.
use Rattle.std.proofs.Common.{◌≡◌, ℕ, ◌∙◌, Bool, true, List, [], ◌∷◌, ◌++◌, Ok, Err, length, drop}
use Rattle.std.proofs.Common.{map}
use Rattle.std.proofs.Common.{cond, refl, ap, sym, arith, lit<, append_assoc}
use Rattle.std.specs.Prelude.{not, if◌then◌else◌}
use Rattle.std.specs.List.{AllByRecursion}
use Rattle.std.proofs.lemmas.Bool.{le-ltb, eq-eqb, and_from}
use Rattle.std.proofs.lemmas.List.{map-append}
use Rattle.std.proofs.lemmas.List.Concat.{flat_map-cons}
use Rattle.byteorder.specs.Endian.{big_bytes, big_number}
use Rattle.byteorder.specs.Numbers.{big_number-reads_back}
use Rattle.rs_mrt.specs.Entry.{Message, State, entry_of, fields_entry, message_entry}
use Rattle.rs_mrt.specs.Record.{MrtRecord, IsRecord, records_of, rest_of, record_spelling, fault_of_rest}
use Rattle.rs_mrt.specs.Source.{source_end}
use Rattle.rs_mrt.specs.declared.fault.MrtFault.TheVariants.{FieldsCutShort}
use Rattle.rs_session.specs.Change.{Change}
use Rattle.rs_session.specs.Effect.{Gives, PassesOver, effect_of, effect_of_entry, effect_of_message, effect_of_state}
use Rattle.rs_session.specs.FileChanges.{changes_of, changes_in_by}
use Rattle.rs_types.specs.Peer.{is_of}
use Rattle.rs_session.specs.UpdateChanges.{announces, unicast}
use Rattle.rs_types.specs.declared.peer_id.PeerId.{PeerId}
use Rattle.rs_session.proofs.FileChangesLemmas.{changes_of-gives}
use Rattle.rs_update.specs.IpPrefix.{IpPrefix}
use Rattle.rs_update.specs.Laws.{Rfc4271IsAsBefore, StandardsAgree}
use Rattle.rs_update.specs.PathAttributes.{PathAttributes}
use Rattle.rs_update.specs.Treating.{message_by}
use Rattle.rs_update.specs.declared.errors.Errors.{Errors}
use Rattle.rs_start.specs.declared.start.Start.{Start}
use Rattle.rs_start.specs.Laws.{OpeningAnnounces}
use Rattle.rs_start.specs.Opening.{Announcing, IsRoutePrefix, IsSound, IsStart, announced, announcing_record}
use Rattle.rs_start.specs.Opening.{announcing_spelling}
use Rattle.rs_start.specs.Opening.{message_record, nlri_spelling, opening_spelling, parties, routes_in, routes_of, up_record}
use Rattle.rs_start.specs.Opening.{updates_spelling}
use Rattle.rs_start.proofs.PrefixLemmas.{nlri_read, nlri_some}
use Rattle.rs_mrt.proofs.FirstRecord.{records_of-spelled, rest_of-spelled}
use Rattle.rs_start.proofs.UpdateLemmas.{length-update, message_by_either}

-- ---- a record in front

said-front : (errors : Errors) (peer : PeerId) (r : MrtRecord) (changes : List Change) (after : List ℕ) → IsRecord r
    → effect_of errors peer r ≡ Gives changes
    → changes_in_by errors peer (record_spelling r ++ after) ≡ changes ++ changes_in_by errors peer after
said-front errors peer r changes after fits effect =
    ap (λ (records : List MrtRecord). changes_of errors peer records (source_end (fault_of_rest (rest_of (record_spelling r ++ after)))))
    (records_of-spelled r after fits)
    ∙ ap (λ (rest : List ℕ). changes_of errors peer (r ∷ records_of after) (source_end (fault_of_rest rest))) (rest_of-spelled r after fits)
    ∙ changes_of-gives errors peer r changes (records_of after) (source_end (fault_of_rest (rest_of after))) effect

-- ---- what a record of the peer says

module _ (start : Start) (is : IsStart start) where
  asn_back : (behind : List ℕ) → big_number 4 (big_bytes 4 start.peer.asn ++ behind) ≡ start.peer.asn
  asn_back behind = big_number-reads_back 4 start.peer.asn behind is.asn

  address_back : (behind : List ℕ) → big_number 4 (big_bytes 4 start.peer.address ++ behind) ≡ start.peer.address
  address_back behind = big_number-reads_back 4 start.peer.address behind is.address

  entry_is : (message : List ℕ) → entry_of (message_record start message) ≡ Ok (Message start.peer.asn start.peer.address message)
  unfolding entry_of fields_entry
  entry_is message =
      let fields = parties start ++ message in
      ap (λ (b : Bool). if b then Err FieldsCutShort else message_entry fields) (le-ltb (length fields) 12 (omega arith))
      ∙ ap (λ (b : Bool). if b then Err FieldsCutShort else Ok (Message (big_number 4 fields) (big_number 4 (drop 12 fields)) message))
      (le-ltb (length fields) 20 (omega arith))
      ∙ ap (λ (n : ℕ). Ok (Message n (big_number 4 (drop 12 fields)) message)) (asn_back (drop 4 fields))
      ∙ ap (λ (n : ℕ). Ok (Message start.peer.asn n message)) (address_back (big_bytes 4 start.local.address ++ message))

  up_is : entry_of (up_record start) ≡ Ok (State start.peer.asn start.peer.address 5 6)
  unfolding entry_of fields_entry
  up_is =
      let fields = parties start ++ big_bytes 2 5 ++ big_bytes 2 6 in
      ap (λ (n : ℕ). Ok (State n (big_number 4 (drop 12 fields)) 5 6)) (asn_back (drop 4 fields))
      ∙ ap (λ (n : ℕ). Ok (State start.peer.asn n 5 6)) (address_back (big_bytes 4 start.local.address ++ big_bytes 2 5 ++ big_bytes 2 6))

  of_itself : is_of start.peer start.peer.asn start.peer.address ≡ true
  of_itself = and_from _ _ (eq-eqb start.peer.asn start.peer.asn refl) (eq-eqb start.peer.address start.peer.address refl)

  up_says : (errors : Errors) → effect_of errors start.peer (up_record start) ≡ Gives []
  unfolding effect_of
  up_says errors =
      ap (effect_of_entry errors start.peer start.time) up_is
      ∙ ap (λ (b : Bool). if b then effect_of_state start.time 5 6 else PassesOver) of_itself

  -- ---- an UPDATE

  all_unicast : (prefixes : List IpPrefix) → AllByRecursion IsRoutePrefix prefixes → unicast prefixes ≡ prefixes
  all_unicast [] each = refl
  all_unicast (prefix ∷ later) each =
      ap (λ (b : Bool). cond (not b) (prefix ∷ unicast later) (unicast later)) each.0.unicast
      ∙ ap (λ (ps : List IpPrefix). prefix ∷ ps) (all_unicast later each.1)

  each_announced : (attributes : PathAttributes) (prefixes : List IpPrefix)
      → map (announces start.time attributes) prefixes
      ≡ map (announced start.time) (map (λ prefix. record { prefix = prefix; attributes = attributes }) prefixes)
  each_announced attributes [] = refl
  each_announced attributes (prefix ∷ later) =
      ap (λ (cs : List Change). announces start.time attributes prefix ∷ cs) (each_announced attributes later)

  module _ (before : Rfc4271IsAsBefore) (agree : StandardsAgree) (errors : Errors) where
    update_says : (update : Announcing) → IsSound update
        → effect_of errors start.peer (announcing_record start update) ≡ Gives (map (announced start.time) (routes_of update))
    unfolding effect_of
    update_says update sound =
        let nlri = nlri_spelling update.prefixes in
        let message = announcing_spelling update in
        ap (effect_of_entry errors start.peer start.time) (entry_is message)
        ∙ ap (λ (b : Bool). if b then effect_of_message start.time (message_by errors message) else PassesOver) of_itself
        ∙ ap (effect_of_message start.time) (message_by_either update.section nlri sound.fits before agree errors update.attributes
        update.prefixes (nlri_some update.prefixes sound.some) (nlri_read update.prefixes sound.prefixes) sound.faultless sound.says)
        ∙ ap (λ (ps : List IpPrefix). Gives (map (announces start.time update.attributes) ps)) (all_unicast update.prefixes sound.prefixes)
        ∙ ap Gives (each_announced update.attributes update.prefixes)

    update_fits : (update : Announcing) → IsSound update → IsRecord (announcing_record start update)
    update_fits update sound =
        let count = length-update update.section (nlri_spelling update.prefixes) in
        record { time = is.time; kind = lit< tt; subtype = lit< tt; body = omega (arith, count, sound.fits) }

    -- ---- all of them

    updates_say : (updates : List Announcing) (behind : List ℕ) → AllByRecursion IsSound updates
        → changes_in_by errors start.peer (updates_spelling start updates ++ behind)
        ≡ map (announced start.time) (routes_in updates) ++ changes_in_by errors start.peer behind
    updates_say [] behind each = refl
    updates_say (update ∷ later) behind each =
        let octets = record_spelling (announcing_record start update) in
        let rest = updates_spelling start later in
        let says = map (announced start.time) (routes_of update) in
        let spell : Announcing → List ℕ = λ one. record_spelling (announcing_record start one) in
        ap (λ (file : List ℕ). changes_in_by errors start.peer (file ++ behind)) (flat_map-cons spell update later)
        ∙ ap (λ (file : List ℕ). changes_in_by errors start.peer file) (append_assoc octets rest behind)
        ∙ said-front errors start.peer (announcing_record start update) says (rest ++ behind) (update_fits update each.0)
        (update_says update each.0)
        ∙ ap (λ (cs : List Change). says ++ cs) (updates_say later behind each.1)
        ∙ sym (append_assoc says (map (announced start.time) (routes_in later)) (changes_in_by errors start.peer behind))
        ∙ ap (λ (cs : List Change). cs ++ changes_in_by errors start.peer behind)
        (sym (map-append (announced start.time) (routes_of update) (routes_in later))
        ∙ ap (map (announced start.time)) (sym (flat_map-cons routes_of update later)))

    up_fits : IsRecord (up_record start)
    up_fits = record { time = is.time; kind = lit< tt; subtype = lit< tt; body = omega arith }

    opening_says : (updates : List Announcing) (behind : List ℕ) → AllByRecursion IsSound updates
        → changes_in_by errors start.peer (opening_spelling start updates ++ behind)
        ≡ map (announced start.time) (routes_in updates) ++ changes_in_by errors start.peer behind
    opening_says updates behind each =
        let octets = record_spelling (up_record start) in
        let rest = updates_spelling start updates in
        ap (λ (file : List ℕ). changes_in_by errors start.peer file) (append_assoc octets rest behind)
        ∙ said-front errors start.peer (up_record start) [] (rest ++ behind) up_fits (up_says errors)
        ∙ updates_say updates behind each

pub opening_announces : Rfc4271IsAsBefore → StandardsAgree → OpeningAnnounces
opening_announces before agree errors start updates behind is each = opening_says start is before agree errors updates behind each
