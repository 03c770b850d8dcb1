-- The sessions of peers go on with the rows of a table.
use Rattle.std.proofs.Common.{◌≡◌, ℕ, ◌+◌, ◌<◌, ◌≤◌, ◌∙◌, Bool, List, [], ◌∷◌, ◌++◌, get_or, set, length, map, Option, Some, None}
use Rattle.std.proofs.Common.{◌⊎◌, inl, inr}
use Rattle.std.proofs.Common.{refl, ap, sym, subst, append_assoc, length-append, arith}
use Rattle.std.specs.Prelude.{cond, ◌==◌}
use Rattle.std.specs.List.{filter, flat_map}
use Rattle.std.proofs.lemmas.Bool.{cases_eq, eq-eqb, ne_eqb}
use Rattle.std.proofs.lemmas.Grind.{flat_map-append}
use Rattle.std.proofs.lemmas.List.{append-nil, get_or_default, get_or-set_other, get_or-set_same, length-set, map-append}
use Rattle.std.proofs.lemmas.List.Elements.{filter-append}
use Rattle.std.proofs.Math.Nat.{add-zero}
use Rattle.rs_mrt.specs.Record.{MrtRecord}
use Rattle.rs_update.specs.IpPrefix.{IpPrefix}
use Rattle.rs_start.specs.Counting.{Counted, GrowsBy, how_many, number_of, outcome_of, outcomes_from}
use Rattle.rs_start.specs.Opening.{TableRoute}
use Rattle.rs_start.specs.Sessions.{AddsEntries, AllEnd, AllGo, EndsBy, EndsWith, GoesBy, GoesOn, HasFailed, PeerFailed}
use Rattle.rs_start.specs.Table.{TableEntry, entry_at}
use Rattle.rs_start.specs.TableFile.{AllHave, TableRow, rows_from, rows_of, told_by, told_from}
use Rattle.rs_start.specs.Writing.{IsWhole, Writing}
use Rattle.rs_start.specs.declared.added.Added.{Added}
use Rattle.rs_start.specs.declared.added.Added.TheVariants.{Written, LeftOut}
use Rattle.rs_start.specs.declared.added.Reason.TheVariants.{Multicast, TooLong, AttributesAtFault}
use Rattle.rs_start.specs.declared.counts.Counts.{Counts}
use Rattle.rs_start.specs.declared.sessions.PeerSession.{PeerSession}
use Rattle.rs_start.specs.declared.start.Start.{Start}
use Rattle.rs_start.proofs.TableLemmas.{leads_more}
use Rattle.rs_start.proofs.WritingLemmas.{goes-then, same_routes}

-- ---- rows

pub told_more : (place : ℕ) (rows later : List TableRow) → told_from place (rows ++ later) ≡ told_from place rows ++ told_from place later
told_more place rows later =
    ap (flat_map told_by) (filter-append (λ row. row.entry.peer == place) rows later)
    ∙ flat_map-append told_by (rows_from place rows) (rows_from place later)

told_own : (place : ℕ) (row : TableRow) → row.entry.peer ≡ place → told_from place (row ∷ []) ≡ told_by row
told_own place row own =
    ap (λ (b : Bool). flat_map told_by (cond b (row ∷ []) [])) (eq-eqb row.entry.peer place own) ∙ append-nil (told_by row)

told_other : (place : ℕ) (row : TableRow) → (row.entry.peer ≡ place → ⊥) → told_from place (row ∷ []) ≡ []
told_other place row other = ap (λ (b : Bool). flat_map told_by (cond b (row ∷ []) [])) (ne_eqb row.entry.peer place other)

-- ---- counts

grows_then : (old mid new first second both : ℕ) → both ≡ first + second → GrowsBy old mid first → GrowsBy mid new second
    → GrowsBy old new both
grows_then old mid new first second both sum before after fits =
    let there : mid ≡ old + first = before (omega (arith, fits, sum)) in
    let behind : new ≡ mid + second = after (omega (arith, there, fits, sum)) in
    omega (arith, there, behind, sum)

many_more : (outcome : Option Added) (outcomes later : List (Option Added))
    → how_many outcome (outcomes ++ later) ≡ how_many outcome outcomes + how_many outcome later
many_more outcome outcomes later =
    ap length (filter-append (λ other. number_of other == number_of outcome) outcomes later)
    ∙ length-append (filter (λ other. number_of other == number_of outcome) outcomes)
    (filter (λ other. number_of other == number_of outcome) later)

pub counted_nothing : (counts : Counts) → Counted counts counts []
counted_nothing counts = record {
  written = λ fits. sym (add-zero counts.written);
  multicast = λ fits. sym (add-zero counts.multicast);
  too_long = λ fits. sym (add-zero counts.too_long);
  at_fault = λ fits. sym (add-zero counts.at_fault);
  unwritten = λ fits. sym (add-zero counts.unwritten);
}

counted_then : (old mid new : Counts) (outcomes later : List (Option Added)) → Counted old mid outcomes → Counted mid new later
    → Counted old new (outcomes ++ later)
counted_then old mid new outcomes later first second = record {
  written = grows_then old.written mid.written new.written (how_many (Some Written) outcomes) (how_many (Some Written) later)
      (how_many (Some Written) (outcomes ++ later)) (many_more (Some Written) outcomes later) first.written second.written;
  multicast = grows_then old.multicast mid.multicast new.multicast (how_many (Some (LeftOut Multicast)) outcomes)
      (how_many (Some (LeftOut Multicast)) later) (how_many (Some (LeftOut Multicast)) (outcomes ++ later))
      (many_more (Some (LeftOut Multicast)) outcomes later) first.multicast second.multicast;
  too_long = grows_then old.too_long mid.too_long new.too_long (how_many (Some (LeftOut TooLong)) outcomes)
      (how_many (Some (LeftOut TooLong)) later) (how_many (Some (LeftOut TooLong)) (outcomes ++ later))
      (many_more (Some (LeftOut TooLong)) outcomes later) first.too_long second.too_long;
  at_fault = grows_then old.at_fault mid.at_fault new.at_fault (how_many (Some (LeftOut AttributesAtFault)) outcomes)
      (how_many (Some (LeftOut AttributesAtFault)) later) (how_many (Some (LeftOut AttributesAtFault)) (outcomes ++ later))
      (many_more (Some (LeftOut AttributesAtFault)) outcomes later) first.at_fault second.at_fault;
  unwritten = grows_then old.unwritten mid.unwritten new.unwritten (how_many None outcomes) (how_many None later)
      (how_many None (outcomes ++ later)) (many_more None outcomes later) first.unwritten second.unwritten;
}

-- what becomes of the rows of a peer
module _ {S : Type 0} (session : Option S) (place : ℕ) where
  abbrev became : TableRow → Option Added
  became row = outcome_of session row.prefix row.entry.section

  outcomes_more : (rows later : List TableRow)
      → outcomes_from session place (rows ++ later) ≡ outcomes_from session place rows ++ outcomes_from session place later
  outcomes_more rows later =
      ap (map became) (filter-append (λ row. row.entry.peer == place) rows later)
      ∙ map-append became (rows_from place rows) (rows_from place later)

  outcomes_own : (row : TableRow) → row.entry.peer ≡ place → outcomes_from session place (row ∷ []) ≡ became row ∷ []
  outcomes_own row own = ap (λ (b : Bool). map became (cond b (row ∷ []) [])) (eq-eqb row.entry.peer place own)

  outcomes_other : (row : TableRow) → (row.entry.peer ≡ place → ⊥) → outcomes_from session place (row ∷ []) ≡ []
  outcomes_other row other = ap (λ (b : Bool). map became (cond b (row ∷ []) [])) (ne_eqb row.entry.peer place other)

-- records behind the index, and others behind them
pub all_have : (records later : List MrtRecord) (rows more : List TableRow) → AllHave records rows → AllHave later more
    → AllHave (records ++ later) (rows ++ more)
all_have [] later rows more has after = subst (λ (before : List TableRow). AllHave later (before ++ more)) (sym has) after
all_have (first ∷ records) later rows more has after = (
  has.0,
  has.1 ++ more,
  has.2,
  all_have records later has.1 more has.3 after,
  ap (λ (all : List TableRow). all ++ more) has.4 ∙ append_assoc has.0 has.1 more,
)

module _ {W : Type 0} (taken : W → Option (List ℕ)) where
  -- ---- one session

  goes_nothing : (session : Option (Writing W)) → GoesBy taken session session []
  goes_nothing None = tt
  goes_nothing (Some session) =
      record { goes = λ before routes begun. same_routes taken before session routes begun; start = refl }

  goes_on : (old mid new : Option (Writing W)) (more later : List TableRoute) → GoesBy taken old mid more → GoesBy taken mid new later
      → GoesBy taken old new (more ++ later)
  goes_on None None None more later first second = tt
  goes_on None None (Some new) more later first second = absurd second
  goes_on None (Some mid) new more later first second = absurd first
  goes_on (Some old) None new more later first second = absurd first
  goes_on (Some old) (Some mid) None more later first second = absurd second
  goes_on (Some old) (Some mid) (Some new) more later first second =
      record { goes = goes-then taken old mid new more later first.goes second.goes; start = second.start ∙ first.start }

  -- a session is there after as before
  same_outcomes : (old mid : Option (Writing W)) (more : List TableRoute) (place : ℕ) (rows : List TableRow)
      → GoesBy taken old mid more → outcomes_from mid place rows ≡ outcomes_from old place rows
  same_outcomes None None more place rows goes = refl
  same_outcomes None (Some mid) more place rows goes = absurd goes
  same_outcomes (Some old) None more place rows goes = absurd goes
  same_outcomes (Some old) (Some mid) more place rows goes = refl

  end_with : (old mid new : Writing W) (more : List TableRoute) → GoesOn taken old mid more → EndsWith taken mid new []
      → EndsWith taken old new more
  end_with old mid new more first second before routes begun =
      subst (λ (start : Start). IsWhole before (taken new.out) start (routes ++ more)) first.start
      (subst (λ (all : List TableRoute). IsWhole before (taken new.out) mid.start all) (append-nil (routes ++ more))
      (second before (routes ++ more) (first.goes before routes begun)))

  ends_by : (old mid new : Option (Writing W)) (more : List TableRoute) → GoesBy taken old mid more → EndsBy taken mid new []
      → EndsBy taken old new more
  ends_by None None None more first second = tt
  ends_by None None (Some new) more first second = absurd second
  ends_by None (Some mid) new more first second = absurd first
  ends_by (Some old) None new more first second = absurd first
  ends_by (Some old) (Some mid) None more first second = absurd second
  ends_by (Some old) (Some mid) (Some new) more first second = end_with old mid new more first second

  -- ---- all of them

  pub all_nothing : (sessions : List (PeerSession W)) → AllGo taken sessions sessions []
  all_nothing sessions =
      record {
        count = refl;
        each = λ place d within. goes_nothing (get_or sessions place d).writer;
        counts = λ place d within. counted_nothing (get_or sessions place d).counts;
      }

  -- the rows of a peer were counted, and then later ones
  counts_then : (old mid new : PeerSession W) (more : List TableRoute) (place : ℕ) (rows later : List TableRow)
      → GoesBy taken old.writer mid.writer more → Counted old.counts mid.counts (outcomes_from old.writer place rows)
      → Counted mid.counts new.counts (outcomes_from mid.writer place later)
      → Counted old.counts new.counts (outcomes_from old.writer place (rows ++ later))
  counts_then old mid new more place rows later goes first second =
      subst (Counted old.counts new.counts) (sym (outcomes_more old.writer place rows later))
      (counted_then old.counts mid.counts new.counts (outcomes_from old.writer place rows) (outcomes_from old.writer place later)
      first
      (subst (Counted mid.counts new.counts) (same_outcomes old.writer mid.writer more place later goes) second))

  pub all_then : (olds mids news : List (PeerSession W)) (rows later : List TableRow) → AllGo taken olds mids rows
      → AllGo taken mids news later → AllGo taken olds news (rows ++ later)
  all_then olds mids news rows later first second =
      record {
        count = second.count ∙ first.count;
        each = λ place d within.
            subst (λ (told : List TableRoute). GoesBy taken (get_or olds place d).writer (get_or news place d).writer told)
            (sym (told_more place rows later))
            (goes_on (get_or olds place d).writer (get_or mids place d).writer (get_or news place d).writer (told_from place rows)
            (told_from place later) (first.each place d within) (second.each place d (omega (arith, within, first.count))));
        counts = λ place d within.
            counts_then (get_or olds place d) (get_or mids place d) (get_or news place d) (told_from place rows) place rows later
            (first.each place d within) (first.counts place d within) (second.counts place d (omega (arith, within, first.count)));
      }

  -- the session of its peer goes on with a row
  pub all_one : (olds : List (PeerSession W)) (peer : ℕ) (next new : PeerSession W) (row : TableRow) → peer < length olds
      → row.entry.peer ≡ peer → GoesBy taken (get_or olds peer next).writer new.writer (told_by row)
      → Counted (get_or olds peer next).counts new.counts
      (outcome_of (get_or olds peer next).writer row.prefix row.entry.section ∷ [])
      → AllGo taken olds (set olds peer new) (row ∷ [])
  all_one olds peer next new row within own goes counted =
      record {
        count = length-set olds peer new;
        each = λ place d below. one place d below (cases_eq place peer);
        counts = λ place d below. count place d below (cases_eq place peer);
      }
    where
      count : (place : ℕ) (d : PeerSession W) → place < length olds → (place ≡ peer) ⊎ (place ≡ peer → ⊥)
          → Counted (get_or olds place d).counts (get_or (set olds peer new) place d).counts
          (outcomes_from (get_or olds place d).writer place (row ∷ []))
      count place d below (inl same) =
          let before : get_or olds peer next ≡ get_or olds place d =
          get_or_default olds peer next d within ∙ ap (λ at. get_or olds at d) (sym same) in
          let after : new ≡ get_or (set olds peer new) place d =
          sym (get_or-set_same olds peer new d within) ∙ ap (λ at. get_or (set olds peer new) at d) (sym same) in
          let old = get_or olds peer next in
          subst (λ (x : PeerSession W). Counted x.counts (get_or (set olds peer new) place d).counts
          (outcomes_from x.writer place (row ∷ [])))
          before
          (subst (λ (x : PeerSession W). Counted old.counts x.counts (outcomes_from old.writer place (row ∷ []))) after
          (subst (Counted old.counts new.counts) (sym (outcomes_own old.writer place row (own ∙ sym same))) counted))
      count place d below (inr other) =
          let old = get_or olds place d in
          let after : old ≡ get_or (set olds peer new) place d = sym (get_or-set_other olds peer place new d other) in
          subst (λ (x : PeerSession W). Counted old.counts x.counts (outcomes_from old.writer place (row ∷ []))) after
          (subst (Counted old.counts old.counts)
          (sym (outcomes_other old.writer place row (λ own_too. other (sym own_too ∙ own))))
          (counted_nothing old.counts))

      one : (place : ℕ) (d : PeerSession W) → place < length olds → (place ≡ peer) ⊎ (place ≡ peer → ⊥)
          → GoesBy taken (get_or olds place d).writer (get_or (set olds peer new) place d).writer (told_from place (row ∷ []))
      one place d below (inl same) =
          let before : get_or olds peer next ≡ get_or olds place d =
          get_or_default olds peer next d within ∙ ap (λ at. get_or olds at d) (sym same) in
          let after : new ≡ get_or (set olds peer new) place d =
          sym (get_or-set_same olds peer new d within) ∙ ap (λ at. get_or (set olds peer new) at d) (sym same) in
          let told : told_by row ≡ told_from place (row ∷ []) = sym (told_own place row (own ∙ sym same)) in
          subst (λ (x : PeerSession W). GoesBy taken x.writer (get_or (set olds peer new) place d).writer (told_from place (row ∷ [])))
          before
          (subst (λ (x : PeerSession W). GoesBy taken (get_or olds peer next).writer x.writer (told_from place (row ∷ []))) after
          (subst (λ (told : List TableRoute). GoesBy taken (get_or olds peer next).writer new.writer told) told goes))
      one place d below (inr other) =
          let after : get_or olds place d ≡ get_or (set olds peer new) place d = sym (get_or-set_other olds peer place new d other) in
          let told : [] ≡ told_from place (row ∷ []) = sym (told_other place row (λ own_too. other (sym own_too ∙ own))) in
          subst (λ (x : PeerSession W). GoesBy taken (get_or olds place d).writer x.writer (told_from place (row ∷ []))) after
          (subst (λ (told : List TableRoute). GoesBy taken (get_or olds place d).writer (get_or olds place d).writer told) told
          (goes_nothing (get_or olds place d).writer))

  -- a row of a peer that the index doesn't have
  pub all_unknown : (olds : List (PeerSession W)) (row : TableRow) → length olds ≤ row.entry.peer → AllGo taken olds olds (row ∷ [])
  all_unknown olds row past =
      record {
        count = refl;
        each = λ place d within.
            subst (λ (told : List TableRoute). GoesBy taken (get_or olds place d).writer (get_or olds place d).writer told)
            (sym (told_other place row (λ own. omega (arith, own, past, within))))
            (goes_nothing (get_or olds place d).writer);
        counts = λ place d within.
            subst (Counted (get_or olds place d).counts (get_or olds place d).counts)
            (sym (outcomes_other (get_or olds place d).writer place row (λ own. omega (arith, own, past, within))))
            (counted_nothing (get_or olds place d).counts);
      }

  pub all_end : (olds mids news : List (PeerSession W)) (rows : List TableRow) → AllGo taken olds mids rows → AllEnd taken mids news []
      → AllEnd taken olds news rows
  all_end olds mids news rows first second =
      record {
        count = second.count ∙ first.count;
        each = λ place d within.
            ends_by (get_or olds place d).writer (get_or mids place d).writer (get_or news place d).writer (told_from place rows)
            (first.each place d within) (second.each place d (omega (arith, within, first.count)));
        counts = λ place d within.
            subst (λ (all : List TableRow). Counted (get_or olds place d).counts (get_or news place d).counts
            (outcomes_from (get_or olds place d).writer place all))
            (append-nil rows)
            (counts_then (get_or olds place d) (get_or mids place d) (get_or news place d) (told_from place rows) place rows []
            (first.each place d within) (first.counts place d within) (second.counts place d (omega (arith, within, first.count))));
      }

  -- ---- the entries of a record

  pub entries_none : (prefix : IpPrefix) (octets : List ℕ) (olds : List (PeerSession W))
      → AddsEntries taken prefix 0 octets octets olds olds
  entries_none prefix octets olds = record { entries = []; counted = refl; leads = refl; go = all_nothing olds }

  pub entries_more : (prefix : IpPrefix) (count : ℕ) (octets rest behind : List ℕ) (entry : TableEntry)
      (olds mids news : List (PeerSession W))
      → AddsEntries taken prefix count octets rest olds mids → entry_at rest ≡ Some (entry, behind)
      → AllGo taken mids news (rows_of prefix (entry ∷ [])) → AddsEntries taken prefix (count + 1) octets behind olds news
  entries_more prefix count octets rest behind entry olds mids news so_far next more =
      record {
        entries = so_far.entries ++ entry ∷ [];
        counted = omega (arith, so_far.counted, length-append so_far.entries (entry ∷ []));
        leads = leads_more entry_at octets so_far.entries rest behind entry so_far.leads next;
        go = subst (λ (rows : List TableRow). AllGo taken olds news rows)
            (sym (map-append (λ one. record { prefix = prefix; entry = one }) so_far.entries (entry ∷ [])))
            (all_then olds mids news (rows_of prefix so_far.entries) (rows_of prefix (entry ∷ [])) so_far.go more);
      }

-- ---- failed writes

-- the session that was put in its place has failed
pub failed_one : {W : Type 0} (failures : W → ℕ) (olds : List (PeerSession W)) (peer : ℕ) (new : PeerSession W) → peer < length olds
    → HasFailed failures new.writer → PeerFailed failures (set olds peer new) peer
failed_one failures olds peer new within failed =
    record {
      known = omega (arith, within, length-set olds peer new);
      failed = λ d. subst (λ session. HasFailed failures session.writer) (sym (get_or-set_same olds peer new d within)) failed;
    }
