-- Lists that grow by one at a time, place by place.
use Rattle.std.proofs.Common.{◌≡◌, ℕ, zero, suc, ◌<◌, ◌+◌, List, [], ◌∷◌, ◌++◌, Option, Some, length, sym, ap, subst, ◌∙◌, arith, inl, inr}
use Rattle.std.proofs.Common.{get_or, append_assoc}
use Rattle.std.proofs.lemmas.List.{append-nil}
use Rattle.std.proofs.lemmas.Option.{slice_get_within}
use Rattle.std.specs.Prelude.{slice_get}
use Rattle.std.specs.List.{enumerate_from}
use Rattle.rs_update.specs.IpPrefix.{IpPrefix}
use Rattle.rs_mrt.proofs.PushedLemmas.{at-pushed}
use Rattle.rs_mrt.specs.Record.{MrtRecord}
use Rattle.rs_session.specs.Stage.{Comes}
use Rattle.rs_choice.specs.Plan.{Peer, Plan, id_of}
use Rattle.rs_table.specs.Content.{TablesContent}
use Rattle.rs_explain.specs.Explanations.{IsExplanation}
use Rattle.rs_glass.specs.Behind.{each_behind}
use Rattle.rs_glass.specs.Explained.{AreExplained}
use Rattle.rs_glass.specs.Recorded.{IsFaultAmong, IsFaultOf}
use Rattle.rs_glass.specs.declared.answers.Answer.{Answer}
use Rattle.rs_glass.specs.declared.fault.GlassFault.{GlassFault}
use Rattle.rs_glass.specs.declared.fault.GlassFault.TheVariants.{Memory, Read}
use Rattle.rs_glass.specs.declared.question.Question.{Question}
use Rattle.rs_glass.specs.declared.said.Said.{Said}

-- a place and what stands there, of a list whose places are numbered
pub at-enumerated_from : {X : Type 0} (from : ℕ) (xs : List X) (place : ℕ) (p : ℕ × X) → place < length (enumerate_from from xs)
    → p ≡ get_or (enumerate_from from xs) place p → (p.0 ≡ from + place) × (slice_get xs place ≡ Some p.1)
at-enumerated_from from [] place p below here = absurd (omega (arith, below))
at-enumerated_from {X} from (a ∷ xs) zero p below here =
    (omega (arith, ap (λ (q : ℕ × X). q.0) here), sym (ap (λ (q : ℕ × X). Some q.1) here))
at-enumerated_from from (a ∷ xs) (suc place) p below here =
    let rest = at-enumerated_from (from + 1) xs place p (omega (arith, below)) here in
    (omega (arith, rest.0), rest.1)

-- one element more makes what it makes behind all others
pub each_behind-more : {X Y : Type 0} (make : List X → X → List Y) (before xs : List X) (one : X)
    → each_behind make before (xs ++ one ∷ []) ≡ each_behind make before xs ++ make (before ++ xs) one
each_behind-more make before [] one =
    append-nil (make before one) ∙ sym (ap (λ all. make all one) (append-nil before))
each_behind-more make before (x ∷ xs) one =
    ap (λ rest. make before x ++ rest) (each_behind-more make (before ++ x ∷ []) xs one)
    ∙ sym (append_assoc (make before x) (each_behind make (before ++ x ∷ []) xs) (make ((before ++ x ∷ []) ++ xs) one))
    ∙ ap (λ all. (make before x ++ each_behind make (before ++ x ∷ []) xs) ++ make all one) (append_assoc before (x ∷ []) xs)

module _ {S : Type 0} (comes : Comes S) (shows : S → Option MrtRecord) (question : Question) (plan : Plan) (sources : List S) where
  -- a fault of one source is a fault among all
  pub fault-among : (number : ℕ) (spec : Peer) (source : S) → slice_get plan.peers number ≡ Some spec
      → slice_get sources number ≡ Some source → (fault : GlassFault) → IsFaultOf comes shows question (id_of spec) source number fault
      → IsFaultAmong comes shows question plan sources fault
  fault-among number spec source at_peer at_source Memory is = tt
  fault-among number spec source at_peer at_source (Read faulty) is =
      (spec, ap (slice_get plan.peers) is.0 ∙ at_peer, (source, ap (slice_get sources) is.0 ∙ at_source, is.1))

module _ (tables : TablesContent) (client : ℕ) (prefix : IpPrefix) (all : List Said) where
  pub explained-none : (answers : List Answer) → AreExplained tables client prefix all 0 answers
  explained-none answers number below = absurd (omega (arith, below))

  -- one peer more was explained
  pub explained-more : (count : ℕ) (answers : List Answer) (one : Answer) → AreExplained tables client prefix all count answers
      → length answers ≡ count → IsExplanation tables client count prefix one.explanation → slice_get all count ≡ Some one.said
      → AreExplained tables client prefix all (count + 1) (answers ++ one ∷ [])
  explained-more count answers one so_far as_many is said number below answer at =
      elim (at-pushed answers one answer number at) [
        | inl earlier ↦ so_far number (omega (arith, slice_get_within answers number answer earlier, as_many)) answer earlier
        | inr last ↦
            let place : count ≡ number = sym (last.0 ∙ as_many) in
            subst (λ (a : Answer). IsExplanation tables client number prefix a.explanation × (slice_get all number ≡ Some a.said)) last.1
            (subst (λ (n : ℕ). IsExplanation tables client n prefix one.explanation × (slice_get all n ≡ Some one.said)) place (is, said))
      ]
