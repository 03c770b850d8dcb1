-- What a source with losses shows, and what a loss that is put in says: for laws.rt.
use Rattle.std.proofs.Common.{◌≡◌, ◌≤◌, ℕ, false, Bool, List, [], ◌∷◌, ◌++◌, drop, length, take, Option, Some, None, Result, Ok}
use Rattle.std.proofs.Common.{arith, leb-true, nat_le, refl, ap, sym, ◌∙◌, inl, inr}
use Rattle.std.specs.Prelude.{filter_map, ◌==◌}
use Rattle.std.specs.List.{cons_option}
use Rattle.std.specs.Option.{option_map}
use Rattle.std.proofs.lemmas.Bool.{and_from, and_parts, cases_Bool, cond-true, cond-false, eq-eqb}
use Rattle.byteorder.specs.Endian.{big_number}
use Rattle.byteorder.specs.Numbers.{big_number-reads_back}
use Rattle.rs_mrt.specs.declared.fault.MrtFault.{MrtFault}
use Rattle.rs_mrt.specs.Entry.{Meaning, State, entry_of, fields_entry, subtype_state_change_as4, type_bgp4mp, type_bgp4mp_et}
use Rattle.rs_mrt.specs.Record.{MrtRecord}
use Rattle.rs_inventory.specs.Course.{Timed, is_up}
use Rattle.rs_inventory.specs.Outline.{note_by, outline_note}
use Rattle.rs_inventory.specs.declared.finding.News.{News}
use Rattle.rs_inventory.specs.declared.finding.News.TheVariants as news
use Rattle.rs_types.specs.declared.peer_id.PeerId.{PeerId}
use Rattle.rs_session.specs.Effect.{effect_of, effect_of_entry}
use Rattle.rs_losses.specs.Laws.{IsSought, LossIsJustALoss, ShownAreThose}
use Rattle.rs_losses.specs.Losses.{behind_record, has_microseconds, is_session_up, loss_fields, loss_record, lost, news_of}
use Rattle.rs_losses.specs.Losses.{shows_loss, told_by, up_with, with_losses_behind}
use Rattle.rs_losses.specs.WithLosses.{losses_along}
use Rattle.rs_losses.specs.declared.following.Followed.{Followed}
use Rattle.rs_losses.specs.declared.losses.Sought.{Sought}

-- ---- what a loss says

-- a change from Established
abbrev lost_state : ℕ → ℕ → Result Meaning MrtFault
lost_state asn address = Ok (State asn address 6 0)

-- without microseconds
plain-says : (who : Sought) (time : ℕ) → IsSought who
    → entry_of (record { time = time; kind = type_bgp4mp; subtype = subtype_state_change_as4; body = loss_fields who })
    ≡ lost_state who.peer.asn who.peer.address
unfolding entry_of fields_entry
plain-says who time fits =
    let body = loss_fields who in
    let asn : big_number 4 body ≡ who.peer.asn = big_number-reads_back 4 who.peer.asn (drop 4 body) fits.1 in
    let address : big_number 4 (drop 12 body) ≡ who.peer.address = big_number-reads_back 4 who.peer.address (drop 16 body) fits.0 in
    ap (λ (n : ℕ). lost_state n (big_number 4 (drop 12 body))) asn ∙ ap (λ (n : ℕ). lost_state who.peer.asn n) address

-- with microseconds
extended-says : (who : Sought) (time : ℕ) (octets : List ℕ) → IsSought who → 4 ≤ length octets
    → entry_of
    (record { time = time; kind = type_bgp4mp_et; subtype = subtype_state_change_as4; body = take 4 octets ++ loss_fields who })
    ≡ lost_state who.peer.asn who.peer.address
unfolding entry_of fields_entry
extended-says who time (a ∷ b ∷ c ∷ d ∷ later) fits four =
    let body = loss_fields who in
    let asn : big_number 4 body ≡ who.peer.asn = big_number-reads_back 4 who.peer.asn (drop 4 body) fits.1 in
    let address : big_number 4 (drop 12 body) ≡ who.peer.address = big_number-reads_back 4 who.peer.address (drop 16 body) fits.0 in
    ap (λ (n : ℕ). lost_state n (big_number 4 (drop 12 body))) asn ∙ ap (λ (n : ℕ). lost_state who.peer.asn n) address
extended-says who time octets fits four = absurd (omega (arith, four))

loss-says : (who : Sought) (r : MrtRecord) → IsSought who → entry_of (loss_record who r) ≡ lost_state who.peer.asn who.peer.address
loss-says who r fits =
    elim (cases_Bool (has_microseconds r)) [
      | inl has ↦
          rw has (extended-says who r.time r.body fits
          (leb-true 4 (length r.body) (and_parts (r.kind == type_bgp4mp_et) (nat_le 4 (length r.body)) has).1))
      | inr hasnt ↦ rw hasnt (plain-says who r.time fits)
    ]

-- to the session of the peer
pub loss-law : LossIsJustALoss
unfolding effect_of
loss-law errors who r fits =
    ap (effect_of_entry errors who.peer r.time) (loss-says who r fits)
    ∙ cond-true _ _ _ (and_from _ _ (eq-eqb who.peer.asn who.peer.asn refl) (eq-eqb who.peer.address who.peer.address refl))

-- to the one who follows it
loss-down : (who : Sought) (r : MrtRecord) → IsSought who → news_of who.peer (outline_note (loss_record who r)) ≡ Some news.Down
loss-down who r fits =
    ap (λ (says : Result Meaning MrtFault). news_of who.peer (note_by (loss_record who r) says)) (loss-says who r fits)
    ∙ cond-true _ _ _ (and_from _ _ (eq-eqb who.peer.address who.peer.address refl) (eq-eqb who.peer.asn who.peer.asn refl))

-- ---- the session behind one record more

up-option : (time : ℕ) (told : Option News) (earlier : List Timed)
    → is_up (cons_option (option_map (λ one. (time, one)) told) earlier) ≡ up_with (is_up earlier) told
up-option time None earlier = refl
up-option time (Some one) earlier = refl

up-more : (peer : PeerId) (r : MrtRecord) (given : List MrtRecord)
    → is_session_up peer (r ∷ given) ≡ up_with (is_session_up peer given) (news_of peer (outline_note r))
up-more peer r given = up-option r.time (news_of peer (outline_note r)) (filter_map (told_by peer) given)

abbrev followed_at : Sought → List MrtRecord → Followed
followed_at who given = record { who = who; up = is_session_up who.peer given }

behind-kept : (who : Sought) (r : MrtRecord) (given : List MrtRecord)
    → behind_record (followed_at who given) r ≡ followed_at who (r ∷ given)
behind-kept who r given = ap (λ (up : Bool). record { who = who; up = up }) (sym (up-more who.peer r given))

behind-lost : (who : Sought) (r : MrtRecord) (given : List MrtRecord) → IsSought who
    → behind_record (lost (followed_at who given)) r ≡ followed_at who (r ∷ loss_record who r ∷ given)
behind-lost who r given fits =
    let peer = who.peer in
    let one = loss_record who r in
    let down : is_session_up peer (one ∷ given) ≡ false =
    up-more peer one given ∙ ap (up_with (is_session_up peer given)) (loss-down who r fits) in
    ap (λ (up : Bool). record { who = who; up = up })
    (sym (up-more peer r (one ∷ given) ∙ ap (λ (up : Bool). up_with up (news_of peer (outline_note r))) down))

-- ---- the records

along-records : (who : Sought) (fits : IsSought who) (records given : List MrtRecord)
    → losses_along (followed_at who given) records ≡ with_losses_behind who given records
along-records who fits [] given = refl
along-records who fits (r ∷ later) given =
    let f = followed_at who given in
    elim (cases_Bool (shows_loss who given r)) [
      | inl is_lost ↦
          (let one = loss_record who r in
          let left : losses_along f (r ∷ later) ≡ one ∷ r ∷ losses_along (behind_record (lost f) r) later = cond-true _ _ _ is_lost in
          let right : with_losses_behind who given (r ∷ later) ≡ one ∷ r ∷ with_losses_behind who (r ∷ one ∷ given) later =
          cond-true _ _ _ is_lost in
          left
          ∙ ap (λ (g : Followed). one ∷ r ∷ losses_along g later) (behind-lost who r given fits)
          ∙ ap (λ (rs : List MrtRecord). one ∷ r ∷ rs) (along-records who fits later (r ∷ one ∷ given))
          ∙ sym right)
      | inr kept ↦
          (let left : losses_along f (r ∷ later) ≡ r ∷ losses_along (behind_record f r) later = cond-false _ _ _ kept in
          let right : with_losses_behind who given (r ∷ later) ≡ r ∷ with_losses_behind who (r ∷ given) later = cond-false _ _ _ kept in
          left
          ∙ ap (λ (g : Followed). r ∷ losses_along g later) (behind-kept who r given)
          ∙ ap (λ (rs : List MrtRecord). r ∷ rs) (along-records who fits later (r ∷ given))
          ∙ sym right)
    ]

pub shown-law : ShownAreThose
shown-law who records fits = along-records who fits records []
