use Rattle.std.proofs.Common.{◌∙◌, sym, ap, refl, arith}
use Rattle.std.proofs.lemmas.List.{take_all}
use Rattle.std.proofs.lemmas.Str.Ascii.{trim_ascii_is}
use Rattle.rs_import_files.specs.Lines.{without_blanks}
use Rattle.rs_import_files.proofs.lines.said_by.Goals as goal

pub returns-in-Some : goal.returns-in-Some
returns-in-Some c =
    let split = c.in-Some.ensures.byte (omega arith) (λ text place found. found) in
    trim_ascii_is c.in-Some.front.now c.trim_ascii.result.now _ refl c.trim_ascii.ensures.value ∙ ap without_blanks split.0

pub returns-in-None : goal.returns-in-None
returns-in-None c =
    let whole = c.in-None.ensures.byte (omega arith) (λ text place found. found) in
    trim_ascii_is c.args.line.now c.trim_ascii-in-None.result.now _ refl c.trim_ascii-in-None.ensures.value
    ∙ ap without_blanks (sym (take_all _ c.args.line.now (omega (arith, whole))))
