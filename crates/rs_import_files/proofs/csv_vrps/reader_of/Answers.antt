use Rattle.std.proofs.Common.{◌∙◌, ap, inr, refl, sym}
use Rattle.std.proofs.lemmas.List.Elements.{All-nil}
use Rattle.csv.specs.Records.{AllText}
use Rattle.csv.specs.Reading.{Reached, builder_config, builder_names_headers, builder_trim, strip_bom}
use Rattle.rs_import_files.proofs.csv_vrps.reader_of.Goals as goal

pub returns : goal.returns
unfolding Reached
returns c =
    let fr = c.from_reader.ensures in
    let e = c.has_headers.ensures in
    let f = c.flexible.ensures in (
      fr.trim ∙ (ap builder_trim f ∙ (ap builder_trim e ∙ c.new.ensures.trim)),
      inr (inr (fr.has_headers ∙ (ap builder_names_headers f ∙ ap builder_names_headers e), fr.headers)),
      fr.config ∙ (ap builder_config f ∙ (ap builder_config e ∙ c.new.ensures.config)),
      strip_bom c.args.octets.now,
      fr.source,
      (sym fr.state, refl),
      All-nil AllText,
    )
