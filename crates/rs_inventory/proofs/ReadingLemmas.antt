-- What records may come, and what they hold.
use Rattle.std.proofs.Common.{◌≡◌, ◌<◌, ◌≤◌, ◌∙◌, ℕ, ◌-◌, ◌||◌, nat_le, nat_lt, Bool, true, false, cond, List, [], ◌∷◌, ◌++◌, length, map, take}
use Rattle.std.proofs.Common.{Option, Some, None, refl, sym, ap, subst, arith, append-nil, append_assoc, leb-true}
use Rattle.std.proofs.lemmas.List.{map_push}
use Rattle.rs_mrt.specs.Entry.{front_of}
use Rattle.rs_mrt.specs.Reader.{ReadEnd, ReadFails, SomethingIsGiven}
use Rattle.rs_mrt.specs.Bounds.{has_later}
use Rattle.rs_mrt.specs.Leniency.{ComesBy, end_by}
use Rattle.rs_mrt.specs.Record.{MrtRecord, records_of, records_within, rest_of, rest_within}
use Rattle.rs_mrt.specs.RecordReading.{MayCome, end_read, read_limit, records_read, unread_until}
use Rattle.rs_mrt.specs.Source.{source_end}
use Rattle.rs_mrt.specs.declared.bounds.Bounds.{Bounds}
use Rattle.rs_mrt.specs.declared.bounds.Tail.{Tail}
use Rattle.rs_mrt.specs.declared.bounds.Tail.TheVariants.{Strict, Lenient}
use Rattle.rs_mrt.specs.declared.fault.MrtFault.{MrtFault}
use Rattle.rs_mrt.specs.declared.fault.SourceFault.{SourceFault}
use Rattle.rs_mrt.specs.declared.fault.SourceFault.TheVariants.{Read}
use Rattle.rs_inventory.specs.Finding.{finding_of}
use Rattle.rs_inventory.specs.Compression.{compression_of}
use Rattle.rs_inventory.specs.Front.{GivesUnlessEnded, IsFrontOf, ReadMayFail, RewoundGives, Taken, is_done, rewound, rewound_may_come}
use Rattle.rs_inventory.specs.Inventory.{Content, Holds, TakesFinding}
use Rattle.rs_inventory.specs.Reading.{GivesRecord, Going, IsReadingOf, MayBeCompressed, MayFail}
use Rattle.rs_inventory.specs.declared.depth.Depth.{Depth}
use Rattle.rs_inventory.specs.declared.finding.Finding.{Finding}

-- what comes behind the record that is shown may come with it in front
pub behind-shown : {S : Type 0} (comes : S → List MrtRecord → Option SourceFault → Type 0) (old new : S) (r : MrtRecord)
    (shown : Option MrtRecord) (end : Option MrtFault)
    → GivesRecord comes old new shown end true → Some r ≡ shown
    → (later : List MrtRecord) (fault : Option SourceFault) → comes new later fault → comes old (r ∷ later) fault
behind-shown comes old new r shown end gives is = λ later fault come.
    subst (λ (x : MrtRecord). comes old (x ∷ later) fault) (sym (ap (or_else r) (is ∙ gives.1))) (gives.2 later fault come)
  where
    or_else : MrtRecord → Option MrtRecord → MrtRecord
    or_else r None = r
    or_else r (Some x) = x

-- one record more came
abbrev pub going-more : {S : Type 0} (depth : Depth) (comes : S → List MrtRecord → Option SourceFault → Type 0) (initial old new : S)
    (before after : Content)
    (r : MrtRecord)
    → Going depth comes initial old before
    → ((later : List MrtRecord) (fault : Option SourceFault) → comes new later fault → comes old (r ∷ later) fault)
    → TakesFinding before (finding_of depth r) after → Going depth comes initial new after
going-more depth comes initial old new before after r going behind takes = record {
  done = going.done ++ r ∷ [];
  behind = λ later fault come.
      subst (λ (records : List MrtRecord). comes initial records fault) (sym (append_assoc going.done (r ∷ []) later))
      (going.behind (r ∷ later) fault (behind later fault come));
  holds = subst (λ (findings : List Finding). Holds findings after) (sym (map_push (finding_of depth) going.done r))
      (takes (map (finding_of depth) going.done) going.holds);
}

-- what comes within bounds of a reader that nothing was read of yet
abbrev Within : {R : Type 0} → (R → List ℕ → ReadEnd → Type 0) → Bounds → R → List MrtRecord → Option SourceFault → Type 0
Within gives bounds reader = ComesBy (MayCome gives) (record { source = unread_until bounds.until reader; tail = bounds.tail })

-- what comes of a reader whose first octets were taken may come of it
come-whole : {R : Type 0} (gives : R → List ℕ → ReadEnd → Type 0) (bounds : Bounds) (old new : R) (front : Taken)
    (records : List MrtRecord) (fault : Option SourceFault)
    → IsFrontOf gives old new front → Within (RewoundGives gives) bounds (rewound front new) records fault
    → Within gives bounds old records fault
come-whole gives bounds old new front records fault is come = (
  come.0,
  record {
    octets = come.1.octets;
    end = come.1.end;
    come = record {
      all = come.1.come.all;
      last = come.1.come.last;
      given = is come.1.come.all come.1.come.last come.1.come.given;
      cut = come.1.come.cut;
      ends = come.1.come.ends;
    };
    fronts = come.1.fronts;
    ends = come.1.ends;
  },
  come.2,
)

-- so it may fail
pub fails-whole : {R : Type 0} (gives : R → List ℕ → ReadEnd → Type 0) (bounds : Bounds) (old new : R) (front : Taken)
    → IsFrontOf gives old new front
    → MayFail (ComesBy (MayCome (RewoundGives gives)))
    (record { source = unread_until bounds.until (rewound front new); tail = bounds.tail })
    → MayFail (ComesBy (MayCome gives)) (record { source = unread_until bounds.until old; tail = bounds.tail })
fails-whole gives bounds old new front is fails = (fails.0, come-whole gives bounds old new front fails.0 (Some Read) is fails.1)

same-either : (test : Bool) (end : ReadEnd) → end ≡ cond test end end
same-either true end = refl
same-either false end = refl

-- no record is later among fewer octets than a header has
short-has-no-later : (time : ℕ) (octets : List ℕ) → length octets < 6 → has_later (Some time) (take (read_limit - 0) octets) ≡ false
unfolding records_of records_within rest_of rest_within
short-has-no-later time [] short = refl
short-has-no-later time (a ∷ []) short = refl
short-has-no-later time (a ∷ b ∷ []) short = refl
short-has-no-later time (a ∷ b ∷ c ∷ []) short = refl
short-has-no-later time (a ∷ b ∷ c ∷ d ∷ []) short = refl
short-has-no-later time (a ∷ b ∷ c ∷ d ∷ e ∷ []) short = refl
short-has-no-later time octets short = absurd (omega (arith, short))

-- so a failed read behind them isn't hidden by a time
short-fails : (until : Option ℕ) (octets : List ℕ) → length octets < 6
    → Some Read ≡ end_read until ReadFails (take (read_limit - 0) octets)
short-fails None octets short = refl
short-fails (Some time) octets short = rw (short-has-no-later time octets short) refl

-- nor by a lenient tail
still-fails : (tail : Tail) → Some Read ≡ end_by tail (Some Read)
still-fails Strict = refl
still-fails Lenient = refl

-- a reader that may fail at its first octets may fail within bounds
pub fails-read : {R : Type 0} (gives : R → List ℕ → ReadEnd → Type 0) (bounds : Bounds) (reader : R) → ReadMayFail gives reader
    → MayFail (ComesBy (MayCome gives)) (record { source = unread_until bounds.until reader; tail = bounds.tail })
fails-read gives bounds reader fails =
    let octets = take (read_limit - 0) fails.0 in (
      map front_of (records_read bounds.until ([] ++ octets)),
      (
        Some Read,
        record {
          octets = octets;
          end = ReadFails;
          come = record {
            all = fails.0;
            last = ReadFails;
            given = fails.1;
            cut = refl;
            ends =
                same-either (nat_lt (length fails.0) (read_limit - 0)) ReadFails;
          };
          fronts = refl;
          ends = short-fails bounds.until fails.0 fails.2;
        },
        still-fails bounds.tail,
      ),
    )

-- what is read of a reader whose first octets were taken may be read of it
pub reading-whole : {R : Type 0} (depth : Depth) (gives : R → List ℕ → ReadEnd → Type 0) (bounds : Bounds) (old new : R) (front : Taken)
    (content : Content)
    → IsFrontOf gives old new front
    → IsReadingOf depth (ComesBy (MayCome (RewoundGives gives)))
    (record { source = unread_until bounds.until (rewound front new); tail = bounds.tail }) content
    → IsReadingOf depth (ComesBy (MayCome gives)) (record { source = unread_until bounds.until old; tail = bounds.tail }) content
reading-whole depth gives bounds old new front content is held = record {
  records = held.records;
  come = come-whole gives bounds old new front held.records (source_end content.end) is held.come;
  holds = held.holds;
}

-- six octets tell whether a file is compressed
compression-front : (octets later : List ℕ) → 6 ≤ length octets → compression_of (octets ++ later) ≡ compression_of octets
compression-front (a ∷ b ∷ c ∷ d ∷ e ∷ f ∷ octets) later six = refl
compression-front octets later six = absurd (omega (arith, six))

-- as do fewer, behind which none come
compression-taken : {R : Type 0} (gives : R → List ℕ → ReadEnd → Type 0) (front : Taken) (inner : R) (later : List ℕ) (end : ReadEnd)
    → is_done front ≡ true
    → GivesUnlessEnded gives front.ended inner later end → compression_of (front.octets ++ later) ≡ compression_of front.octets
compression-taken gives front inner later end done given = go front.ended done given
  where
    go : (ended : Bool) → (ended || nat_le 6 (length front.octets)) ≡ true → GivesUnlessEnded gives ended inner later end
        → compression_of (front.octets ++ later) ≡ compression_of front.octets
    go true done given = ap (λ (l : List ℕ). compression_of (front.octets ++ l)) given.0 ∙ ap compression_of (append-nil front.octets)
    go false done given = compression-front front.octets later (leb-true 6 (length front.octets) done)

-- octets that tell as the first ones do may come of the reader
pub may-be-compressed : {R : Type 0} (gives : R → List ℕ → ReadEnd → Type 0) → ((reader : R) → SomethingIsGiven (gives reader))
    → (old new : R) (front : Taken) → IsFrontOf gives old new front → is_done front ≡ true
    → MayBeCompressed gives old (compression_of front.octets)
may-be-compressed gives some old new front is done =
    let whole = rewound_may_come gives some (rewound front new) in (
      whole.0,
      whole.1,
      is whole.0 whole.1 whole.2,
      ap compression_of whole.2.splits ∙ compression-taken gives front new whole.2.later whole.1 done whole.2.given,
    )
