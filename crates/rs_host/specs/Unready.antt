-- What a fault of a file keeps a program from doing (docs/MANUAL.md, "Statuses"); our choice.
use Rattle.std.specs.Prelude.{◌≡◌, ◌⊎◌, ⊤, ℕ, List, string_bytes}
use Rattle.rs_host.specs.declared.fault.FileFault.{FileFault}
use Rattle.rs_host.specs.declared.fault.FileFault.TheVariants as file
use Rattle.rs_host.specs.declared.unready.Unready.{Unready}
use Rattle.rs_host.specs.declared.unready.Unready.TheVariants.{Unread, Memory}
use Rattle.rs_setup.specs.Recording.{IsRecordingOf, path_at}
use Rattle.rs_setup.specs.declared.recording.Recording.{Recording}
use Rattle.rs_setup.specs.declared.setup.Setup.{Setup as SetUp}

-- the file at this path is named, unless memory for that is refused
abbrev pub NamesFile : List ℕ → Unready → Type 0
NamesFile path (Unread named) = string_bytes named ≡ path
NamesFile path Memory = ⊤
NamesFile path unready = ⊥

abbrev pub EndsAt : FileFault → List ℕ → Unready → Type 0
EndsAt file.Unread path unready = NamesFile path unready
EndsAt file.Memory path unready = unready ≡ Memory

-- one of the files of a peer's recording is named, unless memory for that is refused
abbrev pub NamesFileOf : SetUp → ℕ → Unready → Type 0
NamesFileOf set_up peer unready =
    ((recording : Recording) × IsRecordingOf set_up peer recording × ((place : ℕ) × NamesFile (path_at recording place) unready))
    ⊎ (unready ≡ Memory)
