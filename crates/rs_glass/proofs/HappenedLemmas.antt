-- What happens in the files of all peers, one change and one file after another.
use Rattle.std.proofs.Common.{◌≡◌, ◌∙◌, sym, ap, subst, refl, ℕ, ◌+◌, Bool, true, false, cond, List, [], ◌∷◌, ◌++◌, Option, Some}
use Rattle.std.proofs.Common.{append_assoc, length, length-append, arith, inl, inr}
use Rattle.std.specs.Prelude.{slice_get}
use Rattle.std.proofs.lemmas.List.{append-nil, map-append}
use Rattle.rs_mrt.proofs.PushedLemmas.{at-pushed}
use Rattle.rs_mrt.specs.Record.{MrtRecord}
use Rattle.rs_choice.specs.Plan.{Plan}
use Rattle.rs_session.specs.Change.{Change}
use Rattle.rs_session.specs.Stage.{Comes}
use Rattle.rs_types.specs.declared.peer_id.PeerId.{PeerId}
use Rattle.rs_glass.specs.FileSaid.{SaidChange, all_said_by, cause_in, counts_at, moment_of}
use Rattle.rs_glass.specs.Happened.{AreHappeningsOf, AreWhole, HappeningContent, IsSaidWhole, contents_of, happened_among, happened_in}
use Rattle.rs_glass.specs.Happened.{happens_at, happens_behind, happens_on}
use Rattle.rs_glass.specs.Heard.{IsRecording}
use Rattle.rs_glass.specs.Listed.{IsListing, Lists}
use Rattle.rs_glass.specs.Moments.{later_of}
use Rattle.rs_glass.specs.declared.cause.Cause.{Cause}
use Rattle.rs_glass.specs.declared.happened.Happening.{Happening}
use Rattle.rs_glass.specs.declared.listing.Listing.{Listing}
use Rattle.rs_glass.specs.declared.moment.Moment.{Moment}
use Rattle.rs_glass.specs.declared.question.Question.{Question}
use Rattle.rs_glass.specs.declared.recording.Recording.{Recording}
use Rattle.rs_glass.proofs.ListLemmas.{each_behind-more}
use Rattle.rs_glass.proofs.MomentLemmas.{counts_at-more}

-- ---- one file

-- nothing more is listed
pub lists-none : (listing : Listing) → Lists listing [] listing
lists-none listing question peer said is =
    subst (λ (all : List SaidChange). IsListing question peer all listing) (sym (append-nil said)) is

-- some changes, and then others
pub lists-both : (old between new : Listing) (some more : List SaidChange) → Lists old some between → Lists between more new
    → Lists old (some ++ more) new
lists-both old between new some more first next question peer said is =
    subst (λ (all : List SaidChange). IsListing question peer all new) (append_assoc said some more)
    (next question peer (said ++ some) (first question peer said is))

-- one change more
pub lists-one : (old new : Listing) (one : SaidChange) → new.question ≡ old.question → new.peer ≡ old.peer
    → new.latest ≡ later_of old.latest (moment_of one)
    → contents_of new.all.items ≡ contents_of old.all.items ++ happens_at old.question old.peer new.latest one
    → Lists old (one ∷ []) new
lists-one old new one same_question same_peer latest adds question peer said is =
    let at : new.latest ≡ counts_at said one = latest ∙ sym (is.latest one) in
    record {
      question_is = same_question ∙ is.question_is;
      peer_is = same_peer ∙ is.peer_is;
      latest = λ next. counts_at-more said one next ∙ ap (λ (moment : Moment). later_of moment (moment_of next)) (sym at);
      lists = adds
          ∙ ap (λ (q : Question). contents_of old.all.items ++ happens_at q old.peer new.latest one) is.question_is
          ∙ ap (λ (p : ℕ). contents_of old.all.items ++ happens_at question p new.latest one) is.peer_is
          ∙ ap (λ (moment : Moment). contents_of old.all.items ++ happens_at question peer moment one) at
          ∙ ap (λ (all : List HappeningContent). all ++ happens_behind question peer said one) is.lists
          ∙ sym (each_behind-more (happens_behind question peer) [] said one);
    }

-- what a change adds, where it happens on the prefix, and where it doesn't
pub adds-here : (question : Question) (peer : ℕ) (moment : Moment) (one : SaidChange) (cause : Option Cause)
    → happens_on question.prefix one.change ≡ true → cause ≡ cause_in question.errors one
    → record { peer = peer; moment = moment; change = one.change; cause = cause } ∷ [] ≡ happens_at question peer moment one
adds-here question peer moment one cause happens is =
    ap (λ (l : Option Cause). record { peer = peer; moment = moment; change = one.change; cause = l } ∷ []) is
    ∙ sym (ap (λ (b : Bool). cond b (record { peer = peer; moment = moment; change = one.change; cause = cause_in question.errors one } ∷ []) []) happens)

pub adds-nothing : (question : Question) (peer : ℕ) (moment : Moment) (one : SaidChange) → happens_on question.prefix one.change ≡ false
    → [] ≡ happens_at question peer moment one
adds-nothing question peer moment one happens =
    sym (ap (λ (b : Bool). cond b (record { peer = peer; moment = moment; change = one.change; cause = cause_in question.errors one } ∷ []) []) happens)

-- of the changes of a record some were taken, and others are left
pub record AreTaken (r : MrtRecord) (changes left : List Change) (old new : Listing) : Type 0 where
  pub given : List Change
  pub splits : changes ≡ given ++ left
  pub lists : Lists old (all_said_by r given) new

pub taken-none : (r : MrtRecord) (changes : List Change) (listing : Listing) → AreTaken r changes changes listing listing
taken-none r changes listing = record {
  given = [];
  splits = refl;
  lists = lists-none listing;
}

pub taken-one : (r : MrtRecord) (changes left later : List Change) (change : Change) (old between new : Listing)
    → AreTaken r changes left old between → left ≡ change ∷ later
    → Lists between (record { change = change; said_by = Some r } ∷ []) new → AreTaken r changes later old new
taken-one r changes left later change old between new taken first lists =
    let one : SaidChange = record { change = change; said_by = Some r } in
    record {
      given = taken.given ++ change ∷ [];
      splits = taken.splits ∙ ap (λ (rest : List Change). taken.given ++ rest) first
          ∙ sym (append_assoc taken.given (change ∷ []) later);
      lists = subst (λ (all : List SaidChange). Lists old all new)
          (sym (map-append (λ (c : Change). record { change = c; said_by = Some r }) taken.given (change ∷ [])))
          (lists-both old between new (all_said_by r taken.given) (one ∷ []) taken.lists lists);
    }

pub taken-all : (r : MrtRecord) (changes left : List Change) (old new : Listing) → AreTaken r changes left old new → left ≡ []
    → Lists old (all_said_by r changes) new
taken-all r changes left old new taken none =
    subst (λ (all : List Change). Lists old (all_said_by r all) new)
    (sym (taken.splits ∙ ap (λ (rest : List Change). taken.given ++ rest) none ∙ append-nil taken.given)) taken.lists

-- ---- one file after another

happened_among-more : (question : Question) (number : ℕ) (files : List (List SaidChange)) (said : List SaidChange)
    → happened_among question number (files ++ said ∷ []) ≡ happened_among question number files
    ++ happened_in question (number + length files) said
happened_among-more question number [] said =
    append-nil (happened_in question number said) ∙ ap (λ (n : ℕ). happened_in question n said) (omega arith)
happened_among-more question number (first ∷ later) said =
    ap (λ (all : List HappeningContent). happened_in question number first ++ all)
    (happened_among-more question (number + 1) later said
    ∙ ap (λ (n : ℕ). happened_among question (number + 1) later ++ happened_in question n said) (omega arith))
    ∙ sym (append_assoc (happened_in question number first) (happened_among question (number + 1) later)
    (happened_in question (number + length (first ∷ later)) said))

module _ {S : Type 0} (comes : Comes S) (shows : S → Option MrtRecord) (question : Question) (plan : Plan) (sources : List S) where
  -- what happens by the files of so many peers
  pub record AreListed (count : ℕ) (listed : List HappeningContent) : Type 0 where
    pub files : List (List SaidChange)
    pub as_many : length files ≡ count
    pub each : (number : ℕ) (said : List SaidChange) → slice_get files number ≡ Some said
        → AreWhole comes shows question plan sources number said
    pub says : listed ≡ happened_among question 0 files

  pub listed-none : AreListed 0 []
  listed-none = record {
    files = [];
    as_many = refl;
    each = λ number said at. absurd cc;
    says = refl;
  }

  pub listed-file : (count : ℕ) (said : List SaidChange) (before listed : List HappeningContent) → AreListed count before
      → AreWhole comes shows question plan sources count said → listed ≡ before ++ happened_in question count said
      → AreListed (count + 1) listed
  listed-file count said before listed so_far whole adds = record {
    files = so_far.files ++ said ∷ [];
    as_many = omega (arith, so_far.as_many, length-append so_far.files (said ∷ []));
    each = λ number one at. elim (at-pushed so_far.files said one number at) [
      | inl earlier ↦ so_far.each number one earlier
      | inr last ↦
          let place : count ≡ number = sym (last.0 ∙ so_far.as_many) in
          subst (λ (n : ℕ). AreWhole comes shows question plan sources n one) place
          (subst (AreWhole comes shows question plan sources count) last.1 whole)
    ];
    says = adds ∙ ap (λ (all : List HappeningContent). all ++ happened_in question count said) so_far.says
        ∙ ap (λ (n : ℕ). happened_among question 0 so_far.files ++ happened_in question n said)
        (omega (arith, so_far.as_many))
        ∙ sym (happened_among-more question 0 so_far.files said);
  }

  -- what happens by the recorded session of a peer is listed at its place
  pub listed-recorded : (count : ℕ) (one : Recording S) (all : List Happening) (before listed : List HappeningContent)
      → AreListed count before → IsRecording plan sources count one → AreHappeningsOf comes shows question one.id one.source one.peer all
      → listed ≡ before ++ contents_of all
      → AreListed (count + 1) listed
  listed-recorded count one all before listed so_far is says adds =
      listed-file count says.0 before listed so_far
      (record {
        peer = is.peer;
        peer_is = is.peer_is;
        source = one.source;
        source_is = is.source_is;
        whole = subst (λ (id : PeerId). IsSaidWhole comes shows question id one.source says.0) is.id_is says.1;
      })
      (adds ∙ ap (λ (more : List HappeningContent). before ++ more)
      (says.2 ∙ ap (λ (n : ℕ). happened_in question n says.0) is.number_is))
