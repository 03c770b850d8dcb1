-- Records that one thread hands to another, in batches.
use Rattle.std.specs.Prelude.{ℕ, ◌≤◌, List, [], ◌∷◌, ◌++◌, length, slice_range}
use Rattle.std.specs.List.{flat_map, repeat}
use Rattle.rs_mrt.specs.Record.{MrtRecord}
use Rattle.rs_share.specs.Own.{silence}
use Rattle.rs_share.specs.declared.batch.Head.{Head}

-- a record of the peer, and how many records of others come right before it
pub record Heard : Type 0 where
  pub others : ℕ
  pub own : MrtRecord

-- so many records that say nothing to the peer
abbrev pub silences : ℕ → List MrtRecord
silences n = repeat n (silence ∷ [])

-- the records as which a peer hears these: those of others, and then its own one
abbrev pub spread_one : Heard → List MrtRecord
spread_one h = silences h.others ++ h.own ∷ []

abbrev pub spread : List Heard → List MrtRecord
spread hs = flat_map spread_one hs

-- ---- a batch by its fields

-- the record of a head, whose body is a part of these octets
abbrev pub heard_in : List ℕ → Head → Heard
heard_in octets h =
    record {
      others = h.others;
      own =
          record {
            time = h.time;
            kind = h.kind;
            subtype = h.subtype;
            body = slice_range octets h.start h.end;
          };
    }

-- the body is a part of these octets
abbrev pub IsWithin : List ℕ → Head → Type 0
IsWithin octets h = (h.start ≤ h.end) × (h.end ≤ length octets)
