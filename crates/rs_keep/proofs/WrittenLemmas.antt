-- Dumps that are written beside each other, from when they are begun until they are kept.
use Rattle.std.proofs.Common.{◌≡◌, ℕ, suc, ◌+◌, ◌<◌, ◌≤◌, ◌∙◌, List, [], ◌∷◌, ◌++◌, Option, Some, None, get_or, length, map, refl, sym, ap}
use Rattle.std.proofs.Common.{subst, arith}
use Rattle.std.specs.Prelude.{slice_get, slice_index_or}
use Rattle.std.specs.Io.KnownBytes.{Appends}
use Rattle.std.specs.Option.{option_map}
use Rattle.std.proofs.Math.ListN.{get_or-map}
use Rattle.std.proofs.lemmas.List.{length-map}
use Rattle.std.proofs.lemmas.Option.{get_or_from_slice_get, slice_get-map}
use Rattle.rs_choice.specs.Plan.{Peer, Plan}
use Rattle.rs_dump.specs.SideBySide.{CanBegin, IsWritten}
use Rattle.rs_dump.specs.declared.side_by_side.Writing.{Writing}
use Rattle.rs_outlet.specs.Outlet.{KeptDump, Grows, TellsNothingTaken}
use Rattle.rs_table.specs.Content.{TablesContent}
use Rattle.rs_keep.specs.declared.dumps.DumpFile.{DumpFile}
use Rattle.rs_keep.specs.Kept.{dump_name}
use Rattle.rs_keep.specs.Written.{file_name, AreBegun, AreDumpFiles, AreWritten, IsBegun, IsWrittenOf, TellsTaken}

-- a client's file has its name
pub file-at : (plan : Plan) (files : List DumpFile) (client : ℕ) (file : DumpFile) (peer : Peer) → AreDumpFiles plan files
    → file ≡ get_or files client file → slice_get plan.peers client ≡ Some peer → file_name file ≡ dump_name peer.name
file-at plan files client file peer are is at =
    let name_for : Peer → List ℕ = λ peer. dump_name peer.name in
    let named : slice_get (map name_for plan.peers) client ≡ Some (name_for peer) =
    slice_get-map name_for plan.peers client ∙ ap (option_map name_for) at in
    ap file_name is
    ∙ sym (get_or-map file_name files client file)
    ∙ ap (λ names. get_or names client (file_name file)) are
    ∙ get_or_from_slice_get (map name_for plan.peers) client (name_for peer) (file_name file) named

-- there is one for each client
pub files-count : (plan : Plan) (files : List DumpFile) → AreDumpFiles plan files → length files ≡ length plan.peers
files-count plan files are =
    let name_for : Peer → List ℕ = λ peer. dump_name peer.name in
    sym (length-map files file_name) ∙ ap length are ∙ length-map plan.peers name_for

-- the octets that a writer says it has taken are whole
tells : (kept : Option (List KeptDump)) (old new : Option (List ℕ)) (octets dump : List ℕ) → TellsNothingTaken kept old → octets ≡ dump
    → Appends old new octets → TellsTaken kept new dump
tells None old new octets dump nothing is appended = tt
tells (Some kept) None new octets dump nothing is appended = absurd cc
tells (Some kept) (Some before) None octets dump nothing is appended = absurd appended
tells (Some kept) (Some before) (Some after) octets dump nothing is appended =
    let none : before ≡ [] = cc in
    ap (λ all. Some all) (appended ∙ ap (λ front. front ++ octets) none ∙ is)

-- a list of dumps that grows is still listed
told-before : (base mid : Option (List KeptDump)) (dumps : List KeptDump) (taken : Option (List ℕ)) (octets : List ℕ) → Grows base mid dumps
    → TellsTaken mid taken octets → TellsTaken base taken octets
told-before None mid dumps taken octets grown told = tt
told-before (Some kept) None dumps taken octets grown told = absurd grown
told-before (Some kept) (Some more) dumps taken octets grown told = told

module _ {W : Type 0} (taken : W → Option (List ℕ)) (failures : W → ℕ) (tables : TablesContent) (time : ℕ) where
  -- a dump is begun alone
  one-alone : (kept : Option (List KeptDump)) (client : ℕ) (writing : Writing W) → IsBegun taken failures kept tables time client writing
      → AreBegun taken failures kept tables time client (writing ∷ [])
  one-alone kept client writing begun = λ k d below.
      let first : k ≡ 0 = omega (arith, below) in
      let P : ℕ → Type 0 = λ place. IsBegun taken failures kept tables time (client + place) (slice_index_or (writing ∷ []) place d) in
      let Q : ℕ → Type 0 = λ number. IsBegun taken failures kept tables time number writing in
      let number : client ≡ client + 0 = omega arith in
      subst P (sym first) (subst Q number begun)

  pub one-begun : (kept : Option (List KeptDump)) (client : ℕ) (writing : Writing W) (some : List (Writing W)) → some ≡ writing ∷ []
      → IsBegun taken failures kept tables time client writing → AreBegun taken failures kept tables time client some
  one-begun kept client writing some is begun =
      let P : List (Writing W) → Type 0 = λ all. AreBegun taken failures kept tables time client all in
      subst P (sym is) (one-alone kept client writing begun)

  -- dumps that are begun can be written
  pub can-begin : (kept : Option (List KeptDump)) (client : ℕ) (some : List (Writing W)) → AreBegun taken failures kept tables time client some
      → (k : ℕ) (d : Writing W) → k < length some → CanBegin failures (slice_index_or some k d)
  can-begin kept client some begun k d below =
      let one = begun k d below in
      (one.not_failed, omega (arith, one.no_failure))

  -- a dump that was begun is written
  pub written-of : (label : W → Option (List ℕ)) (kept : Option (List KeptDump)) (client : ℕ) (old new : Writing W)
      → IsBegun taken failures kept tables time client old → IsWritten taken failures label old new
      → IsWrittenOf taken failures kept tables time client new
  written-of label kept client old new begun written =
      record {
        told = λ ok. tells kept (taken old.out) (taken new.out) old.dump.octets _ begun.nothing_taken begun.octets (written.sent ok);
        rows = λ ok. written.rows ok ∙ begun.rows;
      }

  -- those that are left, or were written anew where none was
  refilled : (base mid : Option (List KeptDump)) (dumps : List KeptDump) (client : ℕ) (old now : List (Writing W)) → Grows base mid dumps
      → AreWritten taken failures base tables time client old
      → (0 < length old → now ≡ old) → (length old ≡ 0 → AreWritten taken failures mid tables time client now)
      → AreWritten taken failures base tables time client now
  refilled base mid dumps client [] now grown before left anew =
      let some = anew refl in
      record {
        each = λ k d below.
            let one = some.each k d below in
            record { told = λ ok. told-before base mid dumps (taken (slice_index_or now k d).out) _ grown (one.told ok); rows = one.rows };
        known = some.known;
      }
  refilled base mid dumps client (writing ∷ others) now grown before left anew =
      let P : List (Writing W) → Type 0 = λ some. AreWritten taken failures base tables time client some in
      subst P (sym (left (omega arith))) before

  -- the same where the next one is taken from them
  pub some-left : (base mid : Option (List KeptDump)) (dumps : List KeptDump) (client : ℕ) (old now : List (Writing W))
      (writing : Writing W) (others : List (Writing W)) → Grows base mid dumps → AreWritten taken failures base tables time client old
      → (0 < length old → now ≡ old) → (length old ≡ 0 → AreWritten taken failures mid tables time client now) → now ≡ writing ∷ others
      → AreWritten taken failures base tables time client (writing ∷ others)
  some-left base mid dumps client old now writing others grown before left anew is =
      let P : List (Writing W) → Type 0 = λ some. AreWritten taken failures base tables time client some in
      subst P is (refilled base mid dumps client old now grown before left anew)

  -- the first of them, and the others
  pub first-of : (kept : Option (List KeptDump)) (client : ℕ) (writing : Writing W) (others : List (Writing W))
      → AreWritten taken failures kept tables time client (writing ∷ others) → IsWrittenOf taken failures kept tables time client writing
  first-of kept client writing others are =
      let P : ℕ → Type 0 = λ number. IsWrittenOf taken failures kept tables time number writing in
      let number : client + 0 ≡ client = omega arith in
      subst P number (are.each 0 writing (omega arith))

  pub others-of : (kept : Option (List KeptDump)) (client : ℕ) (writing : Writing W) (others : List (Writing W))
      → AreWritten taken failures kept tables time client (writing ∷ others)
      → AreWritten taken failures kept tables time (client + 1) others
  others-of kept client writing others are =
      record {
        each = λ k d below.
            let P : ℕ → Type 0 = λ number. IsWrittenOf taken failures kept tables time number (slice_index_or others k d) in
            let number : client + suc k ≡ client + 1 + k = omega arith in
            subst P number (are.each (suc k) d (omega (arith, below)));
        known = omega (arith, are.known);
      }

  pub none-of : (kept : Option (List KeptDump)) (client : ℕ) (some : List (Writing W)) → length some ≡ 0 → client ≤ length tables.plan.peers
      → AreWritten taken failures kept tables time client some
  none-of kept client some none within =
      record {
        each = λ k d below. absurd (omega (arith, below, none));
        known = omega (arith, none, within);
      }
