-- What happens in the file of one peer, one record after another.
use Rattle.std.proofs.Common.{◌≡◌, ◌∙◌, ap, subst, refl, ℕ, Bool, true, false, List, [], ◌∷◌, ◌++◌, Option, Some}
use Rattle.rs_update.specs.declared.errors.Errors.{Errors}
use Rattle.rs_mrt.specs.Record.{MrtRecord}
use Rattle.rs_mrt.specs.Source.{SomethingComes}
use Rattle.rs_mrt.specs.declared.fault.SourceFault.{SourceFault}
use Rattle.rs_session.specs.Change.{is_read}
use Rattle.rs_session.specs.Effect.{RecordEffect, PassesOver, Gives, Ends, effect_of}
use Rattle.rs_session.specs.FileChanges.{changes_by, close_at, ends, reason_at_end}
use Rattle.rs_session.specs.Stage.{Comes}
use Rattle.rs_types.specs.declared.peer_id.PeerId.{PeerId}
use Rattle.rs_glass.specs.FileSaid.{SaidChange, all_said_by, closing_at_end, said_of}
use Rattle.rs_glass.specs.Happened.{AreHappeningsOf}
use Rattle.rs_glass.specs.Listed.{FailsNext, GoesOnBy, IsListing, Lists, TakesClose, TakesNext, TakesRecord}
use Rattle.rs_glass.specs.Recorded.{IsFaultOf}
use Rattle.rs_glass.specs.declared.fault.GlassFault.{GlassFault}
use Rattle.rs_glass.specs.declared.fault.GlassFault.TheVariants.{Memory, Read}
use Rattle.rs_glass.specs.declared.listing.Listing.{Listing}
use Rattle.rs_glass.specs.declared.question.Question.{Question}
use Rattle.rs_glass.proofs.FileSaidLemmas.{HasSaid, has_said-more, has_said-none, said-unread, said-whole, said_in-ends, said_in-nil}

-- ---- one step

module _ {S : Type 0} (comes : Comes S) (errors : Errors) (peer : PeerId) (old new : S) (before after : Listing) where
  -- a record came
  pub takes-record : (r : MrtRecord) (goes_on : Bool)
      → ((later : List MrtRecord) (end : Option SourceFault) → comes new later end → comes old (r ∷ later) end)
      → SomethingComes (comes new) → GoesOnBy (effect_of errors peer r) goes_on → Lists before (said_of errors peer r) after
      → TakesNext comes errors peer old new before after goes_on
  takes-record r goes_on come some goes lists = by_effect (effect_of errors peer r) refl goes_on goes
    where
      by_effect : (effect : RecordEffect) → effect_of errors peer r ≡ effect → (on : Bool) → GoesOnBy effect on
          → TakesNext comes errors peer old new before after on
      by_effect PassesOver is true on = record { next = r; come = come; goes_on = ap ends is; lists = lists }
      by_effect PassesOver is false on = absurd cc
      by_effect (Gives changes) is true on = record { next = r; come = come; goes_on = ap ends is; lists = lists }
      by_effect (Gives changes) is false on = absurd cc
      by_effect (Ends reason) is true on = let never : true ≡ false = on.0 in absurd cc
      by_effect (Ends reason) is false on =
          let close : SaidChange = record { change = close_at r.time reason; said_by = Some r } in
          let says : said_of errors peer r ≡ close ∷ [] = ap (λ (effect : RecordEffect). all_said_by r (changes_by r.time effect)) is in
          record {
            records = r ∷ some.0;
            end = some.1;
            come = come some.0 some.1 some.2;
            close = close;
            reason = reason;
            is_close = refl;
            readable = on.1;
            says = said_in-ends errors peer r some.0 some.1 (ap ends is) ∙ says;
            lists = subst (λ (all : List SaidChange). Lists before all after) says lists;
          }

  -- the file ended
  pub takes-end : (end : Option SourceFault) → comes old [] end → is_read (reason_at_end end) ≡ false
      → Lists before (closing_at_end (reason_at_end end) ∷ []) after → TakesClose comes errors peer old new before after
  takes-end end come readable lists = record {
    records = [];
    end = end;
    come = come;
    close = closing_at_end (reason_at_end end);
    reason = reason_at_end end;
    is_close = refl;
    readable = readable;
    says = said_in-nil errors peer end;
    lists = lists;
  }

-- ---- the whole file

module _ {S : Type 0} (comes : Comes S) (question : Question) (id : PeerId) (start : S) (peer : ℕ) where
  -- what the records that came say is listed
  pub record IsListed (source : S) (listing : Listing) : Type 0 where
    pub said : List SaidChange
    pub has_said : HasSaid question.errors id comes start said source
    pub is_listing : IsListing question peer said listing

  pub listed-nothing : (listing : Listing) → IsListing question peer [] listing → IsListed start listing
  listed-nothing listing is = record {
    said = [];
    has_said = has_said-none question.errors id comes start;
    is_listing = is;
  }

  pub listed-record : (old new : S) (before after : Listing) → IsListed old before
      → TakesRecord comes question.errors id old new before after → IsListed new after
  listed-record old new before after so_far takes = record {
    said = so_far.said ++ said_of question.errors id takes.next;
    has_said = has_said-more question.errors id comes start so_far.said old new takes.next so_far.has_said takes.come takes.goes_on;
    is_listing = takes.lists question peer so_far.said so_far.is_listing;
  }

  module _ (shows : S → Option MrtRecord) where
    pub listed-whole : (old new : S) (before after : Listing) → IsListed old before
        → TakesClose comes question.errors id old new before after → AreHappeningsOf comes shows question id start peer after.all.items
    listed-whole old new before after so_far takes = (
      so_far.said ++ takes.close ∷ [],
      said-whole comes shows question id start so_far.said old so_far.has_said takes.records takes.end takes.close takes.reason takes.come
          takes.says takes.is_close takes.readable,
      (takes.lists question peer so_far.said so_far.is_listing).lists,
    )

    pub listed-fault : (source : S) (listing : Listing) → IsListed source listing → (fault : GlassFault)
        → FailsNext comes source listing.peer fault → IsFaultOf comes shows question id start peer fault
    listed-fault source listing so_far Memory fails = tt
    listed-fault source listing so_far (Read faulty) fails =
        (fails.0 ∙ so_far.is_listing.peer_is, said-unread comes shows question id start so_far.said source so_far.has_said fails.1)
