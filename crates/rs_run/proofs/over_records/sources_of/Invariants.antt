use Rattle.std.proofs.Common.{◌≡◌, ◌≤◌, ◌^◌, All, length, map}
use Rattle.rs_run.specs.ReadSo.{AreReadSo, room_of}
use Rattle.rs_run.proofs.over_records.sources_of.Given as goal

-- the files so far have their sources
abbrev pub invariant-loop-place : goal.invariant-loop-place
invariant-loop-place l = record {
  as_many : length l.sources.items ≡ l.place;
  read_so : AreReadSo l.reading l.whose (map (λ file. file.now) l.files) l.sources.items;
  room : All (λ source. room_of source ≤ 2 ^ 50) l.sources.items;
}
