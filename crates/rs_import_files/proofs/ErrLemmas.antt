-- What holds of an error that a function passes on.
use Rattle.std.proofs.Common.{◌≡◌, ◌∙◌, Bool, true, false, Result, Ok, Err, subst, sym}
use Rattle.std.specs.Prelude.{IfErr, IsErrAnd, MatchBool}
use Rattle.rs_import_files.specs.Faults.{Refuses, is_of_file}
use Rattle.rs_import_files.specs.declared.fault.ListFault.{ListFault}

-- what holds in any case holds of an error
pub where_err : {A E : Type 0} {P : Type 0} (read : Result A E) → P → IfErr read (λ _. P)
where_err (Ok x) holds = tt
where_err (Err fault) holds = holds

pub err_any : {A E : Type 0} {P : E → Type 0} (read : Result A E) → ((fault : E) → P fault) → IfErr read P
err_any (Ok x) holds = tt
err_any (Err fault) holds = holds fault

-- what follows of what holds, whatever the error
pub err_so : {A E : Type 0} {N M : Type 0} (read : Result A E) → (N → M) → IfErr read (λ _. N) → IfErr read (λ _. M)
err_so (Ok x) so none = tt
err_so (Err fault) so none = so none

-- what holds of the error that is passed on
pub passed_on : {A E : Type 0} (P : E → Type 0) (fault : E) (read : Result A E) → IsErrAnd read (λ found. found ≡ fault) → P fault
    → IfErr read P
passed_on P fault (Ok x) same holds = tt
passed_on P fault (Err found) same holds = subst P (sym same) holds

-- ---- files

-- what a text says in the form that it has
pub says_json : (A B : Type 0) (json : Bool) → json ≡ true → MatchBool json A B → A
says_json A B json is said = subst (λ one. MatchBool one A B) is said

pub says_other : (A B : Type 0) (json : Bool) → json ≡ false → MatchBool json A B → B
says_other A B json is said = subst (λ one. MatchBool one A B) is said

-- a fault that isn't of the file refuses nothing
pub of_room : {V A T : Type 0} (StandsFor : V → A → Type 0) (value : V) (read : Result T ListFault)
    → IfErr read (λ fault. is_of_file fault ≡ false) → IfErr read (Refuses StandsFor value)
of_room StandsFor value (Ok x) many = tt
of_room StandsFor value (Err fault) many = λ of_file. absurd (cc (sym many ∙ of_file))
