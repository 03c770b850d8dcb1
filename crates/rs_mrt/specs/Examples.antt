-- Examples of the definitions, computed by the checker. For each definition there are values for which it holds, and
-- values for which it does not.
use Rattle.std.specs.Prelude.{◌≡◌, ℕ, true, false, List, [], ◌∷◌, ◌++◌, take, Option, Some, None, Ok, Err}
use Rattle.rs_mrt.specs.declared.fault.MrtFault.TheVariants.{HeaderCutShort, BodyCutShort, FieldsCutShort}
use Rattle.rs_mrt.specs.declared.fault.MrtFault.TheVariants.{MicrosecondsCutShort}
use Rattle.rs_mrt.specs.declared.fault.SourceFault.TheVariants.{Mrt, Read}
use Rattle.rs_mrt.specs.declared.stream.Failed.{Failed}
use Rattle.rs_mrt.specs.Record.{MrtRecord, record_spelling, records_of, rest_of, end_of, Splits, reading_of}
use Rattle.rs_mrt.specs.Entry.{Message, State, Other, entry_of, front_of}
use Rattle.rs_mrt.specs.Source.{Advances, CountsFailure, IsLeft, stopped_at}
use Rattle.rs_mrt.specs.Stream.{failed_calls, AppendsBeginning}
use Rattle.rs_mrt.specs.Memory.{amount_within}
use Rattle.rs_mrt.specs.Reader.{FileEnds, ReadFails, MayBeLeft, failed_reads}
use Rattle.rs_mrt.specs.MemoryReading.{MemoryReading, Comes, after_read, amount_given}
use Rattle.rs_mrt.specs.RecordReading.{end_read, end_within, fault_behind, records_read}
use Rattle.rs_mrt.specs.Leniency.{end_by}
use Rattle.rs_mrt.specs.declared.bounds.Tail.TheVariants.{Strict, Lenient}

-- the fields of a session: the peer is AS 64501 at 192.0.2.11, the recorder is AS 64500 at 192.0.2.1, over IPv4
abbrev pub session : List ℕ
session = 0 ∷ 0 ∷ 251 ∷ 245 ∷ 0 ∷ 0 ∷ 251 ∷ 244 ∷ 0 ∷ 0 ∷ 0 ∷ 1 ∷ 192 ∷ 0 ∷ 2 ∷ 11 ∷ 192 ∷ 0 ∷ 2 ∷ 1 ∷ []

-- a record of Type BGP4MP at 100 seconds
abbrev pub recorded : ℕ → ℕ → List ℕ → MrtRecord
recorded kind subtype body = record { time = 100; kind = kind; subtype = subtype; body = body }

-- the session has gone from OpenSent to Established
abbrev pub change : MrtRecord
change = recorded 16 5 (session ++ 0 ∷ 4 ∷ 0 ∷ 6 ∷ [])

-- a file of this record alone, 36 octets
abbrev pub file : List ℕ
file = 0 ∷ 0 ∷ 0 ∷ 100 ∷ 0 ∷ 16 ∷ 0 ∷ 5 ∷ 0 ∷ 0 ∷ 0 ∷ 24 ∷ change.body

pub record RecordExamples : Type 0 where
  pub spelled : record_spelling change ≡ file
  pub empty : (records_of [] ≡ []) × (end_of [] ≡ None)
  pub one : (records_of file ≡ change ∷ []) × (end_of file ≡ None)
  pub two : records_of (file ++ file) ≡ change ∷ change ∷ []
  pub octet_after : (records_of (file ++ 0 ∷ []) ≡ change ∷ []) × (end_of (file ++ 0 ∷ []) ≡ Some HeaderCutShort)
  pub header_less_one : (records_of (take 11 file) ≡ []) × (end_of (take 11 file) ≡ Some HeaderCutShort)
  pub header_alone : (records_of (take 12 file) ≡ []) × (end_of (take 12 file) ≡ Some BodyCutShort)
  pub file_less_one : (rest_of (take 35 file) ≡ take 35 file) × (end_of (take 35 file) ≡ Some BodyCutShort)
  pub splits : Splits file (change ∷ []) []
  pub splits_no_shorter : Splits file [] file → ⊥
  pub splits_no_other : Splits file (recorded 16 4 change.body ∷ []) [] → ⊥

pub record EntryExamples : Type 0 where
  pub state : entry_of change ≡ Ok (State 64501 3221225995 4 6)
  pub states_and_more : entry_of (recorded 16 5 (change.body ++ 0 ∷ [])) ≡ Ok (State 64501 3221225995 4 6)
  pub states_less_one : entry_of (recorded 16 5 (take 23 change.body)) ≡ Err FieldsCutShort
  pub message : entry_of (recorded 16 4 change.body) ≡ Ok (Message 64501 3221225995 (0 ∷ 4 ∷ 0 ∷ 6 ∷ []))
  pub empty_message : entry_of (recorded 16 4 session) ≡ Ok (Message 64501 3221225995 [])
  pub with_microseconds : entry_of (recorded 17 4 (9 ∷ 9 ∷ 9 ∷ 9 ∷ session)) ≡ Ok (Message 64501 3221225995 [])
  pub microseconds_less_one : entry_of (recorded 17 4 (0 ∷ 0 ∷ 0 ∷ [])) ≡ Err MicrosecondsCutShort
  pub microseconds_alone : entry_of (recorded 17 4 (0 ∷ 0 ∷ 0 ∷ 0 ∷ [])) ≡ Err FieldsCutShort
  pub microseconds_of_another_subtype : entry_of (recorded 17 1 (0 ∷ 0 ∷ 0 ∷ 0 ∷ [])) ≡ Ok Other
  pub before_family : entry_of (recorded 16 4 (take 11 session)) ≡ Err FieldsCutShort
  pub after_family : entry_of (recorded 16 4 (take 12 session)) ≡ Err FieldsCutShort
  pub another_family : entry_of (recorded 16 4 (take 10 session ++ 0 ∷ 2 ∷ [])) ≡ Ok Other
  pub another_subtype : entry_of (recorded 16 1 []) ≡ Ok Other
  pub another_type : entry_of (recorded 13 4 []) ≡ Ok Other
  pub front : front_of change ≡ change

pub record SourceExamples : Type 0 where
  pub comes : IsLeft (reading_of None file) (change ∷ []) None
  pub comes_not_less : IsLeft (reading_of None file) [] None → ⊥
  pub comes_not_at_fault : IsLeft (reading_of None file) (change ∷ []) (Some (Mrt BodyCutShort)) → ⊥
  pub comes_not_unread : IsLeft (reading_of None file) (change ∷ []) (Some Read) → ⊥
  pub comes_at_fault : IsLeft (reading_of None (take 35 file)) [] (Some (Mrt BodyCutShort))
  pub shows_one : Advances IsLeft (reading_of None file) (reading_of (Some change) []) (Some change) (Ok true)
  pub ends_not_before : Advances IsLeft (reading_of None file) (reading_of None []) None (Ok false) → ⊥
  pub fails_not_before : Advances IsLeft (reading_of None file) (reading_of None []) None (Err Read) → ⊥
  pub ends_after : Advances IsLeft (reading_of (Some change) []) (reading_of None []) None (Ok false)
  pub read_failed : CountsFailure 0 1 ⊥ None (Err Read)
  pub read_not_failed : CountsFailure 0 0 ⊥ None (Err Read) → ⊥
  pub goes_on : stopped_at None (change ∷ []) None ≡ None
  pub goes_on_after : stopped_at (Some change) [] None ≡ None
  pub stopped : stopped_at None [] None ≡ Some (Ok false)
  pub stopped_at_fault : stopped_at None [] (Some BodyCutShort) ≡ Some (Err (Mrt BodyCutShort))
  pub cut_short_and_strict : end_by Strict (Some (Mrt BodyCutShort)) ≡ Some (Mrt BodyCutShort)
  pub header_cut_short_and_lenient : end_by Lenient (Some (Mrt HeaderCutShort)) ≡ None
  pub body_cut_short_and_lenient : end_by Lenient (Some (Mrt BodyCutShort)) ≡ None
  pub read_failed_and_lenient : end_by Lenient (Some Read) ≡ Some Read

pub record WriterExamples : Type 0 where
  pub error : (failed : Failed) → failed_calls (Err failed) [] ≡ 1
  pub nothing_of_an_octet : failed_calls (Ok 0) (7 ∷ []) ≡ 1
  pub nothing_of_nothing : failed_calls (Ok 0) [] ≡ 0
  pub an_octet_of_two : failed_calls (Ok 1) (7 ∷ 7 ∷ []) ≡ 0
  pub beginning : AppendsBeginning (Some (1 ∷ [])) (Some (1 ∷ 2 ∷ [])) (2 ∷ 3 ∷ [])
  pub not_the_end : AppendsBeginning (Some (1 ∷ [])) (Some (1 ∷ 3 ∷ [])) (2 ∷ 3 ∷ []) → ⊥
  pub not_in_place : AppendsBeginning (Some (1 ∷ [])) (Some (2 ∷ [])) (2 ∷ []) → ⊥
  pub room_for_two : amount_within (record { before_failure = None; room = 30; piece = 7 }) 28 40 ≡ Some 2
  pub seven_a_call : amount_within (record { before_failure = Some 1; room = 30; piece = 7 }) 0 40 ≡ Some 7
  pub no_room : amount_within (record { before_failure = None; room = 30; piece = 7 }) 30 40 ≡ None
  pub failing_call : amount_within (record { before_failure = Some 0; room = 30; piece = 7 }) 0 40 ≡ None

-- a reader over three octets; a call fails after so many calls, and one after so many octets
abbrev pub three_in_calls : Option ℕ → Option ℕ → MemoryReading
three_in_calls calls before =
    record { left = 1 ∷ 2 ∷ 3 ∷ []; calls = calls; before_failure = before; most = 2; failures = 0 }

abbrev pub three : Option ℕ → MemoryReading
three before = three_in_calls None before

pub record ReaderExamples : Type 0 where
  pub error : (failed : Failed) → failed_reads (Err failed) ≡ 1
  pub no_octets : failed_reads (Ok 0) ≡ 0
  pub all_left : MayBeLeft (Some (1 ∷ 2 ∷ [])) (1 ∷ 2 ∷ []) FileEnds
  pub less_left : MayBeLeft (Some (1 ∷ 2 ∷ [])) (1 ∷ []) FileEnds → ⊥
  pub less_before_a_failure : MayBeLeft (Some (1 ∷ 2 ∷ [])) (1 ∷ []) ReadFails
  pub whole : Comes (three None) (1 ∷ 2 ∷ 3 ∷ []) FileEnds
  pub failing : Comes (three (Some 2)) (1 ∷ 2 ∷ []) ReadFails
  pub failing_at_the_end : Comes (three (Some 3)) (1 ∷ 2 ∷ 3 ∷ []) ReadFails
  pub failing_too_late : Comes (three (Some 4)) (1 ∷ 2 ∷ 3 ∷ []) FileEnds
  pub two_a_call : amount_given (three (Some 3)) 9 ≡ Some 2
  pub one_before_the_failure : amount_given (three (Some 1)) 9 ≡ Some 1
  pub failing_now : amount_given (three (Some 0)) 9 ≡ None
  pub two_before_a_failing_call : Comes (three_in_calls (Some 1) None) (1 ∷ 2 ∷ []) ReadFails
  pub whole_before_a_failing_call : Comes (three_in_calls (Some 3) None) (1 ∷ 2 ∷ 3 ∷ []) FileEnds
  pub second_call_failing : amount_given (after_read (three_in_calls (Some 1) None) (Ok 2)) 9 ≡ None
  pub within : end_within 3 (1 ∷ 2 ∷ []) FileEnds ≡ FileEnds
  pub at_the_limit : end_within 2 (1 ∷ 2 ∷ []) FileEnds ≡ ReadFails
  pub rest_at_a_failure : fault_behind ReadFails [] ≡ Some Read
  pub rest_at_the_end : fault_behind FileEnds (take 35 file) ≡ Some (Mrt BodyCutShort)
  pub no_rest : fault_behind FileEnds [] ≡ None
  pub in_time : records_read (Some 100) file ≡ change ∷ []
  pub later : (records_read (Some 99) file ≡ []) × (end_read (Some 99) FileEnds file ≡ None)
  pub failing_in_a_later_body : end_read (Some 99) ReadFails (take 12 file) ≡ None
  pub failing_in_a_later_header : end_read (Some 99) ReadFails (take 11 file) ≡ Some Read
  pub failing_without_a_time : end_read None ReadFails (take 12 file) ≡ Some Read
