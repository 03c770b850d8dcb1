-- What an outline tells of the records that came so far.
use Rattle.std.proofs.Common.{◌≡◌, ◌∙◌, sym, ap, subst, refl, ◌||◌, Bool, false, true, List, [], ◌∷◌, ◌++◌, Option, Some, None, append-nil}
use Rattle.std.specs.List.{list_any}
use Rattle.std.proofs.lemmas.List.Folds.{list_any-append}
use Rattle.rs_mrt.specs.Cut.{cut_of}
use Rattle.rs_mrt.specs.Leniency.{answer_at_end}
use Rattle.rs_mrt.specs.Record.{MrtRecord}
use Rattle.rs_mrt.specs.RecordReading.{RecordReading}
use Rattle.rs_mrt.specs.Source.{source_end}
use Rattle.rs_mrt.specs.declared.cut.Cut.{Cut}
use Rattle.rs_mrt.specs.declared.fault.MrtFault.{MrtFault}
use Rattle.rs_mrt.specs.declared.fault.SourceFault.{SourceFault}
use Rattle.rs_inventory.specs.FileOutline.{OutlinesNothing, TakesRecord, ended, is_recorded_by}
use Rattle.rs_inventory.specs.OutlinedRecords.{IsFileOutline}
use Rattle.rs_inventory.specs.Reading.{GivesRecord, Going}
use Rattle.rs_inventory.specs.declared.depth.Depth.TheVariants as depths
use Rattle.rs_inventory.specs.declared.file_outline.Outline.{Outline}
use Rattle.rs_types.specs.declared.peer_id.PeerId.{PeerId}
use Rattle.rs_inventory.proofs.ReadingLemmas.{behind-shown, going-more}

-- records came so far, others may still come behind them, and this is the outline of those that came
pub record OutlineGoing {S : Type 0} (server : PeerId) (comes : S → List MrtRecord → Option SourceFault → Type 0) (initial now : S)
    (outline : Outline) : Type 0 where
  pub going : Going depths.Outline comes initial now outline.held
  pub uncompressed : outline.held.compression ≡ None
  pub names_server : outline.names_server ≡ list_any (is_recorded_by server) going.done

any-push : {X : Type 0} (test : X → Bool) (xs : List X) (x : X) → list_any test (xs ++ x ∷ []) ≡ list_any test xs || test x
any-push test xs x = list_any-append test xs (x ∷ []) ∙ ap (λ (b : Bool). list_any test xs || b) (or-false (test x))
  where
    or-false : (b : Bool) → b || false ≡ b
    or-false true = refl
    or-false false = refl

-- no record came yet
pub outline-start : {S : Type 0} (server : PeerId) (comes : S → List MrtRecord → Option SourceFault → Type 0) (initial : S) (outline : Outline)
    → OutlinesNothing outline → OutlineGoing server comes initial initial outline
outline-start server comes initial outline nothing = record {
  going = record { done = []; behind = λ later fault come. come; holds = nothing.held.0 };
  uncompressed = nothing.uncompressed;
  names_server = nothing.names_server;
}

-- one record more came
pub outline-more : {S : Type 0} (server : PeerId) (comes : S → List MrtRecord → Option SourceFault → Type 0) (initial old new : S)
    (before after : Outline) (r : MrtRecord) (shown : Option MrtRecord) (end : Option MrtFault)
    → OutlineGoing server comes initial old before → GivesRecord comes old new shown end true → Some r ≡ shown
    → TakesRecord server before r after → OutlineGoing server comes initial new after
outline-more server comes initial old new before after r shown end so gives is takes = record {
  going = going-more depths.Outline comes initial old new before.held after.held r so.going
      (behind-shown comes old new r shown end gives is) takes.held;
  uncompressed = takes.uncompressed ∙ so.uncompressed;
  names_server = takes.names_server ∙ ap (λ (b : Bool). b || is_recorded_by server r) so.names_server
      ∙ sym (any-push (is_recorded_by server) so.going.done r);
}

-- the records end
pub outline-whole : {R : Type 0} (server : PeerId) (comes : RecordReading R → List MrtRecord → Option SourceFault → Type 0)
    (initial now last : RecordReading R) (outline : Outline) (shown : Option MrtRecord) (end : Option MrtFault) (cut : Option Cut)
    → OutlineGoing server comes initial now outline → GivesRecord comes now last shown end false
    → last.stopped ≡ Some (answer_at_end (source_end end)) → cut ≡ cut_of last
    → IsFileOutline server comes initial (ended end cut outline)
outline-whole server comes initial now last outline shown end cut so gives stopped is = record {
  records = so.going.done;
  come = subst (λ (records : List MrtRecord). comes initial records (source_end end)) (append-nil so.going.done)
      (so.going.behind [] (source_end end) gives);
  holds = record {
    records = so.going.holds.records;
    kinds = so.going.holds.kinds;
    first = so.going.holds.first;
    last = so.going.holds.last;
    octets = so.going.holds.octets;
    back = so.going.holds.back;
    watch = so.going.holds.watch;
    unnamed = so.going.holds.unnamed;
    recorder = so.going.holds.recorder;
    peers = so.going.holds.peers;
  };
  names_server = so.names_server;
  last = last;
  stopped = stopped;
  cut = is;
}
