-- How the records of a peer go on with one record more.
use Rattle.std.proofs.Common.{◌≡◌, refl, ℕ, List, [], ◌∷◌, ◌++◌, inl, inr}
use Rattle.std.proofs.lemmas.Bool.{cases_Bool}
use Rattle.std.proofs.lemmas.List.{reverse-append}
use Rattle.rs_inventory.specs.Course.{Timed, course_of, course_with, first_read_in, first_read_with, is_read}
use Rattle.rs_inventory.specs.declared.finding.News.{News}

-- the first record that a route server reads
first_read-more : (told : List Timed) (time : ℕ) (one : News)
    → first_read_in (told ++ (time, one) ∷ []) ≡ first_read_with time one (first_read_in told)
first_read-more [] time one = refl
first_read-more (t ∷ told) time one =
    elim (cases_Bool (is_read t.1)) [
      | inl is ↦ rw is refl
      | inr isnt ↦ rw isnt (first_read-more told time one)
    ]

pub course-more : (told : List Timed) (time : ℕ) (one : News)
    → course_of (told ++ (time, one) ∷ []) ≡ course_with time one (course_of told)
unfolding course_of
course-more [] time one = refl
course-more (t ∷ told) time one =
    rw (reverse-append (t ∷ told) ((time, one) ∷ []), first_read-more (t ∷ told) time one) refl
