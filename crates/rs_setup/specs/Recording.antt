-- The recording of a peer: the files that are read as one (our choice).
use Rattle.std.specs.Prelude.{◌≡◌, ℕ, List, [], map, Some, slice_get, string_bytes}
use Rattle.std.specs.Option.{option_map, option_map_or}
use Rattle.rs_setup.specs.Setup.{texts_in}
use Rattle.rs_setup.specs.declared.recording.Recording.{Recording}
use Rattle.rs_setup.specs.declared.setup.Setup.{Setup}

-- The recording of the peer of a number: its recorded file, and the files that are read before it, if there are any.
pub record IsRecordingOf (setup : Setup) (peer : ℕ) (recording : Recording) : Type 0 where
  pub file : option_map string_bytes (slice_get setup.files.items peer) ≡ Some recording.file.now
  pub begin : map string_bytes recording.begin.now ≡ option_map_or texts_in (slice_get setup.begins.items peer) []

-- the path of the file at a place; the last file stands behind those that are read before it
abbrev pub path_at : Recording → ℕ → List ℕ
path_at recording place = option_map_or string_bytes (slice_get recording.begin.now place) recording.file.now
