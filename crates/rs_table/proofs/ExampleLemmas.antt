-- The examples are computed: for `examples_hold` of laws.rt.
use Rattle.std.proofs.Common.{[], ◌∷◌, refl, sym, ◌∙◌}
use Rattle.rs_choice.specs.Decision.{choice, remaining, unbeaten}
use Rattle.rs_table.specs.Examples.{ten, ended, LeftExamples, TableExamples}
use Rattle.rs_table.proofs.LeftLemmas.{get-left, left-from-leaves}

pub left_examples : LeftExamples
left_examples =
    record {
      nothing = get-left _ ten;
      one = λ a. get-left _ ten;
      replaced = λ a b. get-left _ ten;
      removed = λ a. get-left _ ten;
      again = λ a b. get-left _ ten;
      of_another_length = λ a. get-left _ ten;
      of_another_prefix = λ a. get-left _ ten;
      at_the_end = λ a. get-left _ ten;
      after_a_fault = λ a. get-left _ ten;
      after_a_loss = λ a. get-left _ ten;
      since_a_loss = λ a b. get-left _ ten;
      not_where_another_came_back = λ a b. get-left _ ten;
      by_its_last_place =
          λ a. record { earlier = []; later = ended ∷ []; is_announced = refl; is_last = refl; stays_up = refl; keeps_routes = refl };
      not_by_an_earlier_place = λ a leaves. let e = sym (get-left _ ten) ∙ left-from-leaves _ ten _ leaves in cc;
      not_before_a_loss = λ a leaves. let e = sym (get-left _ ten) ∙ left-from-leaves _ ten _ leaves in cc;
      not_after_a_fault = λ a leaves. let e = leaves.keeps_routes in cc;
    }

pub table_examples : TableExamples
unfolding choice remaining unbeaten
table_examples =
    record {
      others_route = simp get-left;
      not_hidden = simp get-left;
      never_its_own = simp get-left;
      shorter_path = simp get-left;
      unknown_client = simp get-left;
      own = refl;
      absent = simp get-left;
      refused = simp get-left;
      best = simp get-left;
      lost = simp get-left;
      no_older_route = simp get-left;
      not_eligible = simp get-left;
    }
