-- What `clap` knows of an option of the program's table.
use Rattle.std.specs.Prelude.{Some, length, map}
use Rattle.clap.specs.Words.{Rule, new_rule}
use Rattle.rs_options.specs.declared.argument.Row.{Row}

-- the rule of an option, by its row
abbrev pub rule_for : Row → Rule
rule_for row = record (new_rule row.name.now) {
  long = Some row.name.now;
  action = Some row.action;
  value_names = length row.value.now;
  defaults = map (λ text. text.now) row.default.now;
  parser = row.parser;
  required = row.required;
}
