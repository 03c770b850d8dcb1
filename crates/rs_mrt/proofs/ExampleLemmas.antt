-- The examples are computed: for `examples_hold` of laws.rt.
use Rattle.std.proofs.Common.{◌≡◌, ℕ, zero, suc, List, [], ◌∷◌, lit<, lit≤, refl, ap, take, inl, inr, arith}
use Rattle.rs_mrt.specs.Record.{MrtRecord, records_of, records_within, rest_of, rest_within, IsRecord}
use Rattle.rs_mrt.specs.Entry.{entry_of, fields_entry}
use Rattle.rs_mrt.specs.Examples.{change, RecordExamples, EntryExamples, SourceExamples, WriterExamples, ReaderExamples}

change_fits : IsRecord change
change_fits = record { time = lit< tt; kind = lit< tt; subtype = lit< tt; body = lit< tt }

pub record_examples : RecordExamples
unfolding records_of records_within rest_of rest_within
record_examples =
    record {
      spelled = refl;
      empty = (refl, refl);
      one = (refl, refl);
      two = refl;
      octet_after = (refl, refl);
      header_less_one = (refl, refl);
      header_alone = (refl, refl);
      file_less_one = (refl, refl);
      splits = record { spelled = refl; fit = (change_fits, tt); longest = λ r after fits e. cc };
      splits_no_shorter = λ split. split.longest change [] change_fits refl;
      splits_no_other = λ split. let e = split.spelled in cc;
    }

pub entry_examples : EntryExamples
unfolding entry_of fields_entry
entry_examples =
    record {
      state = refl;
      states_and_more = refl;
      states_less_one = refl;
      message = refl;
      empty_message = refl;
      with_microseconds = refl;
      microseconds_less_one = refl;
      microseconds_alone = refl;
      microseconds_of_another_subtype = refl;
      before_family = refl;
      after_family = refl;
      another_family = refl;
      another_subtype = refl;
      another_type = refl;
      front = refl;
    }

pub source_examples : SourceExamples
unfolding records_of records_within rest_of rest_within
source_examples =
    record {
      comes = (refl, refl);
      comes_not_less = λ left. let e = left.0 in cc;
      comes_not_at_fault = λ left. let e = left.1 in cc;
      comes_not_unread = λ left. let e = left.1 in cc;
      comes_at_fault = (refl, refl);
      shows_one = λ later end left. (ap (λ (rs : List MrtRecord). change ∷ rs) left.0, left.1);
      ends_not_before = λ left. let e = left.1.0 in cc;
      fails_not_before = λ left. let e = left.1.0 in cc;
      ends_after = (refl, (refl, refl));
      read_failed = inl refl;
      read_not_failed =
          λ counted. elim counted [ inl rose ↦ absurd (omega arith) | inr h ↦ elim h.1 [ inl full ↦ full | inr before ↦ cc ] ];
      goes_on = refl;
      goes_on_after = refl;
      stopped = refl;
      stopped_at_fault = refl;
      cut_short_and_strict = refl;
      header_cut_short_and_lenient = refl;
      body_cut_short_and_lenient = refl;
      read_failed_and_lenient = refl;
    }

not_the_end : (n : ℕ) → ◌≡◌ {A = List ℕ} (1 ∷ 3 ∷ []) (1 ∷ take n (2 ∷ 3 ∷ [])) → ⊥
not_the_end zero e = cc
not_the_end (suc zero) e = cc
not_the_end (suc (suc n)) e = cc

not_in_place : (n : ℕ) → ◌≡◌ {A = List ℕ} (2 ∷ []) (1 ∷ take n (2 ∷ [])) → ⊥
not_in_place zero e = cc
not_in_place (suc n) e = cc

pub writer_examples : WriterExamples
writer_examples =
    record {
      error = λ failed. refl;
      nothing_of_an_octet = refl;
      nothing_of_nothing = refl;
      an_octet_of_two = refl;
      beginning = (1, lit≤ tt, refl);
      not_the_end = λ h. not_the_end h.0 h.2;
      not_in_place = λ h. not_in_place h.0 h.2;
      room_for_two = refl;
      seven_a_call = refl;
      no_room = refl;
      failing_call = refl;
    }

less_than_left : ◌≡◌ {A = List ℕ} (1 ∷ []) (1 ∷ 2 ∷ []) → ⊥
less_than_left e = cc

pub reader_examples : ReaderExamples
unfolding records_of records_within rest_of rest_within
reader_examples =
    record {
      error = λ failed. refl;
      no_octets = refl;
      all_left = refl;
      less_left = λ e. less_than_left e;
      less_before_a_failure = (1, refl);
      whole = (refl, refl);
      failing = (refl, refl);
      failing_at_the_end = (refl, refl);
      failing_too_late = (refl, refl);
      two_a_call = refl;
      one_before_the_failure = refl;
      failing_now = refl;
      two_before_a_failing_call = (2, refl);
      whole_before_a_failing_call = (refl, refl);
      second_call_failing = refl;
      within = refl;
      at_the_limit = refl;
      rest_at_a_failure = refl;
      rest_at_the_end = refl;
      no_rest = refl;
      in_time = refl;
      later = (refl, refl);
      failing_in_a_later_body = refl;
      failing_in_a_later_header = refl;
      failing_without_a_time = refl;
    }
