-- Lists that are known by the paths of their files.
use Rattle.std.proofs.Common.{ℕ, List, subst, string_bytes}
use Rattle.rs_setup.specs.Known.{AreKnown, IsAmong}
use Rattle.rs_setup.specs.declared.lists.Known.{Known}

module _ {S : Type 0} (Says : List ℕ → S → Type 0) where
  -- a list that is known under a path is what the file there says
  pub known_says : (known : List (Known S)) (path : List ℕ) (list : S) → AreKnown Says known → IsAmong known path list → Says path list
  known_says known path list all (one, (place, within, is), same, value) =
      let here : Says (string_bytes one.path) one.list.value =
      subst (λ (x : Known S). Says (string_bytes x.path) x.list.value) is (all place one within) in
      subst (λ p. Says p list) same (subst (λ v. Says (string_bytes one.path) v) value here)
