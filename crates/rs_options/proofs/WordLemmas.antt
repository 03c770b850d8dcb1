-- Values that the getters of `clap` read.
use Rattle.std.proofs.Common.{◌≡◌, ◌∙◌, ℕ, [], ◌∷◌, Option, Some, None, Result, Ok, Err, ap, inl, inr, refl, sym, subst}
use Rattle.std.specs.Prelude.{OnOk, option_map}
use Rattle.std.specs.Str.Parse.{ParsesUnsigned}
use Rattle.clap.specs.Matches.{ReadsOne}
use Rattle.clap.specs.Words.{HasKind, IsAmong, Kinds, Text, kind_of}
use Rattle.clap.specs.declared.error.Error.{Error}
use Rattle.clap.specs.declared.error.kind.ErrorKind.{ErrorKind}
use Rattle.clap.specs.declared.error.kind.ErrorKind.TheVariants.{DisplayHelp, DisplayVersion, OutOfMemory}
use Rattle.rs_options.specs.declared.options.WordsFault.{WordsFault}
use Rattle.rs_options.specs.declared.options.WordsFault.TheVariants.{Help, Refused, Memory}
use Rattle.rs_options.specs.CommandLine.{IsToldAs, SaysWhy, number_of}

-- a number of so many bits that was read of a text is the number that the text stands for
pub number_read : (bits : ℕ) (E : Type 0) (Reads : Text → Result ℕ E → Type 0)
    → ((text : Text) (read : Result ℕ E) → Reads text read → ParsesUnsigned bits 10 text read)
    → (text : Option Text) (read : Option ℕ) (number : ℕ) → (text ≡ None → read ≡ None)
    → ((t : Text) → text ≡ Some t → ReadsOne Reads t read)
    → read ≡ Some number → option_map number_of text ≡ Some number
number_read bits E Reads parses None read number none some is =
    let bad : None ≡ Some number = sym (none refl) ∙ is in
    cc
number_read bits E Reads parses (Some text) read number none some is =
    let given : ReadsOne Reads text (Some number) = subst (ReadsOne Reads text) is (some text refl) in
    ap Some (sym (parses text (Ok number) given).1)

-- the one member of a list
the_one : (kind one : ErrorKind) → IsAmong kind (one ∷ []) → kind ≡ one
the_one kind one (inl same) = same
the_one kind one (inr none) = absurd none

-- an error of one of these kinds becomes the fault that they give
pub told_as : (kinds : Kinds) (error : Error) (fault : WordsFault) → HasKind kinds error → IsToldAs (kind_of error) fault
    → SaysWhy kinds fault
told_as kinds error (Help text) (inl memory) (inl is) =
    let bad : OutOfMemory ≡ DisplayHelp = sym memory ∙ is in
    cc
told_as kinds error (Help text) (inl memory) (inr is) =
    let bad : OutOfMemory ≡ DisplayVersion = sym memory ∙ is in
    cc
told_as kinds error (Help text) (inr among) (inl is) = inl (subst (λ kind. IsAmong kind kinds) is among)
told_as kinds error (Help text) (inr among) (inr is) = inr (subst (λ kind. IsAmong kind kinds) is among)
told_as kinds error (Refused text) (inl memory) is = absurd (is.2 memory)
told_as kinds error (Refused text) (inr among) is = (
  λ one. is.0 (the_one (kind_of error) DisplayHelp (subst (IsAmong (kind_of error)) one among)),
  λ one. is.1 (the_one (kind_of error) DisplayVersion (subst (IsAmong (kind_of error)) one among)),
)
told_as kinds error Memory has is = tt

-- what holds at any rate holds of a success
pub at_success : {T E P : Type 0} (result : Result T E) → P → OnOk result P
at_success (Ok value) holds = holds
at_success (Err error) holds = tt
