-- Values and texts that stand for nothing.
use Rattle.std.proofs.Common.{◌≡◌, ◌∙◌, ◌<◌, ℕ, zero, suc, List, [], ◌∷◌, length, map, get_or, Option, None, Some, subst, sym, ap, arith}
use Rattle.std.proofs.lemmas.Option.{same_Some}
use Rattle.std.specs.Net.Grammar.{IsIpv4Text}
use Rattle.std.specs.Prelude.{IfNone}
use Rattle.std.specs.declared.net.ipv4_addr.Ipv4Addr.{Ipv4Addr}
use Rattle.toml.specs.Data.{Data, string, as_str}
use Rattle.toml.specs.View.{items_of, items_view, view}
use Rattle.toml.specs.declared.value.Value.{Value}
use Rattle.rs_setup.specs.Values.{AreTexts, IsDottedAddress, StandsForNone}

-- where there is no value, what follows of that holds too
pub none_so : {A : Type 0} {N M : Type 0} (found : Option A) → (N → M) → IfNone found N → IfNone found M
none_so None so none = so none
none_so (Some x) so none = tt

-- what holds in any case holds where there is none
pub where_none : {A : Type 0} {P : Type 0} (found : Option A) → P → IfNone found P
where_none None holds = holds
where_none (Some x) holds = tt

module _ {A : Type 0} (Writes : List ℕ → A → Type 0) where
  -- a value that is a text which writes nothing stands for nothing
  pub not_written : (value : Data) (text : List ℕ) → as_str value ≡ Some text → StandsForNone Writes text
      → StandsForNone (λ one found. (text : List ℕ) × (one ≡ string text) × Writes text found) value
  not_written value text some none found is =
      let equal : text ≡ is.0 = same_Some text is.0 (sym some ∙ ap as_str is.1) in
      none found (subst (λ one. Writes one found) (sym equal) is.2)

-- a text that std reads no address of writes none
pub no_address : (text : List ℕ) → ((address : Ipv4Addr) → ¬ (IsIpv4Text text address)) → StandsForNone IsDottedAddress text
no_address text none address (octets, dotted, is) = none (record { octets = octets }) dotted

-- items are no texts where the one at a place isn't
pub no_text_at : (values : List Value) (index : ℕ) (value : Value) → index < length values → value ≡ get_or values index value
    → as_str (view value) ≡ None
    → StandsForNone AreTexts (items_view values)
no_text_at [] index value within is none texts same = absurd (omega (arith, within))
no_text_at (first ∷ values) index value within is none [] same = absurd (cc same)
no_text_at (first ∷ values) zero value within is none (text ∷ texts) same =
    let here : view first ≡ string text = cc in
    absurd (cc (sym (ap (λ v. as_str (view v)) is ∙ ap as_str here) ∙ none))
no_text_at (first ∷ values) (suc index) value within is none (text ∷ texts) same =
    let rest : items_view values ≡ items_of (map string texts) = cc in
    no_text_at values index value (omega (arith, within)) is none texts rest
