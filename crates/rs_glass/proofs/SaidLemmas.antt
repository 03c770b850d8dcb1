-- The close among changes, one change after another.
use Rattle.std.proofs.Common.{◌≡◌, ◌∙◌, ap, refl, ℕ, List, [], ◌∷◌, ◌++◌}
use Rattle.std.specs.Prelude.{cond, reverse, Some}
use Rattle.std.specs.List.{find}
use Rattle.std.specs.Option.{option_and_then}
use Rattle.std.proofs.lemmas.List.{reverse-append}
use Rattle.rs_session.specs.Change.{Change, ChangeBody, Announced, Withdrawn, Lost, Closed, is_close, body_closes}
use Rattle.rs_glass.specs.Recorded.{body_reason, close_after, close_in}

-- with one change more
pub close_in-more : (changes : List Change) (one : Change) → close_in (changes ++ one ∷ []) ≡ close_after (close_in changes) one.body
close_in-more changes one =
    ap (λ (all : List Change). option_and_then (λ (change : Change). body_reason change.body) (find is_close all))
    (reverse-append changes (one ∷ [])) ∙ by_body one.time one.body
  where
    by_body : (time : ℕ) (body : ChangeBody) → option_and_then (λ (change : Change). body_reason change.body)
        (cond (body_closes body) (Some (record { time = time; body = body })) (find is_close (reverse changes)))
        ≡ close_after (close_in changes) body
    by_body time (Announced prefix attributes) = refl
    by_body time (Withdrawn prefix) = refl
    by_body time Lost = refl
    by_body time (Closed reason) = refl
