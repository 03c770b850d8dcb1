-- For which dumps a writer is out, from when they are started until they are back.
use Rattle.std.proofs.Common.{◌≡◌, ℕ, suc, ◌+◌, ◌<◌, ◌∙◌, List, [], ◌∷◌, ◌++◌, Option, Some, None, drop, get_or, length, length-append, map}
use Rattle.std.proofs.Common.{take, refl, sym, ap, subst, arith}
use Rattle.std.specs.Prelude.{slice_index_or}
use Rattle.std.proofs.Math.ListN.{get_or-map}
use Rattle.std.proofs.Math.Seq.{drop-cons, take-add}
use Rattle.std.proofs.lemmas.List.{drop-drop, length-map, map-append}
use Rattle.rs_dump.specs.declared.side_by_side.Writing.{Writing}
use Rattle.rs_outlet.specs.Started.{Names, AreSameNames, ComesBack, GoesOut, IsLabelOut, IsOut, LabelComesBack, TellsName}
use Rattle.rs_keep.specs.StartedDumps.{AreOut, AreOutFrom, AreOutToo, TellNames, names_from}
use Rattle.rs_keep.specs.Written.{file_name}
use Rattle.rs_keep.specs.declared.dumps.DumpFile.{DumpFile}
use Rattle.rs_keep.proofs.NamesLemmas.{is-out, none-too, too-back, too-goes, too-none, too-then}

-- the names of some files, and of more behind them
names-more : (files : List DumpFile) (client a b : ℕ) → names_from files client (a + b) ≡ names_from files client a
    ++ names_from files (client + a) b
names-more files client a b =
    let names = map file_name files in
    take-add a b (drop client names) ∙ ap (λ rest. take a (drop client names) ++ take b rest) (drop-drop a client names)

-- the name of the first one, and of those behind it
names-first : (files : List DumpFile) (client count : ℕ) (file : DumpFile) → client < length files → file ≡ get_or files client file
    → names_from files client (suc count) ≡ file_name file ∷ names_from files (client + 1) count
names-first files client count file below is =
    let names = map file_name files in
    let name = file_name file in
    let within : client < length names = omega (arith, below, length-map files file_name) in
    let here : get_or names client name ≡ name = get_or-map file_name files client file ∙ ap file_name (sym is) in
    let next : suc client ≡ client + 1 = omega arith in
    ap (take (suc count)) (drop-cons names client name within) ∙ ap (λ first. first ∷ take count (drop (suc client) names)) here
    ∙ ap (λ place. name ∷ take count (drop place names)) next

cons-head : {X : Type 0} (x y : X) (xs ys : List X) → x ∷ xs ≡ y ∷ ys → x ≡ y
cons-head x y xs ys e = cc

cons-tail : {X : Type 0} (x y : X) (xs ys : List X) → x ∷ xs ≡ y ∷ ys → xs ≡ ys
cons-tail x y xs ys e = cc

module _ {W : Type 0} (label : W → Option (List ℕ)) where
  abbrev label_of : Writing W → Option (List ℕ)
  label_of writing = label writing.out

  abbrev labels : List (List ℕ) → List (Option (List ℕ))
  labels names = map (λ name. Some name) names

  -- of the first writer and the others
  first-told : (before now : Names) (writing : Writing W) (others : List (Writing W)) (name : List ℕ) (names : List (List ℕ))
      → AreOut label before now (writing ∷ others) (name ∷ names) → TellsName now (label writing.out) name
  first-told before None writing others name names out = tt
  first-told None (Some now) writing others name names out = absurd out.too
  first-told (Some before) (Some now) writing others name names out =
      cons-head (label_of writing) (Some name) (map label_of others) (labels names) out.told

  rest-told : (before : Names) (writing : Writing W) (others : List (Writing W)) (name : List ℕ) (names : List (List ℕ))
      → TellNames label before (writing ∷ others) (name ∷ names) → TellNames label before others names
  rest-told None writing others name names told = tt
  rest-told (Some before) writing others name names told =
      cons-tail (label_of writing) (Some name) (map label_of others) (labels names) told

  -- the first one is out under its name
  pub out-first : (before now : Names) (writing : Writing W) (others : List (Writing W)) (name : List ℕ) (names : List (List ℕ))
      → AreOut label before now (writing ∷ others) (name ∷ names)
      → TellsName now (label writing.out) name × IsOut now name
  out-first before now writing others name names out =
      (first-told before now writing others name names out, is-out before now name names out.too)

  -- it comes back
  pub out-back : (before now later : Names) (writing : Writing W) (others : List (Writing W)) (name : List ℕ) (names : List (List ℕ))
      → AreOut label before now (writing ∷ others) (name ∷ names)
      → ComesBack now later name → AreOut label before later others names
  out-back before now later writing others name names out back =
      record { too = too-back before now later name names out.too back; told = rest-told before writing others name names out.told }

  -- the same where the writer alone tells the name
  pub all-out-first : (before now : Names) (writing : Writing W) (others : List (Writing W)) (names : List (List ℕ))
      → AreOut label before now (writing ∷ others) names → IsLabelOut now (label writing.out)
  all-out-first before None writing others names out = ([], tt, tt)
  all-out-first None (Some now) writing others names out = absurd out.too
  all-out-first (Some before) (Some now) writing others [] out = let told : map label_of (writing ∷ others) ≡ [] = out.told in absurd cc
  all-out-first (Some before) (Some now) writing others (name ∷ names) out =
      let first = out-first (Some before) (Some now) writing others name names out in
      (name, first.0, first.1)

  pub all-out-back : (before now later : Names) (writing : Writing W) (others : List (Writing W)) (names : List (List ℕ))
      → AreOut label before now (writing ∷ others) names
      → LabelComesBack now later (label writing.out) → (left : List (List ℕ)) × AreOut label before later others left
  all-out-back None None None writing others names out back = ([], record { too = tt; told = tt })
  all-out-back None None (Some later) writing others names out back = absurd (back [] tt)
  all-out-back None (Some now) later writing others names out back = absurd out.too
  all-out-back (Some before) None later writing others names out back = absurd out.too
  all-out-back (Some before) (Some now) later writing others [] out back = let told : map label_of (writing ∷ others) ≡ [] = out.told in
      absurd cc
  all-out-back (Some before) (Some now) later writing others (name ∷ names) out back = (
    names,
    out-back (Some before) (Some now) later writing others name names out
        (back name (first-told (Some before) (Some now) writing others name names out)),
  )

  -- all are back
  pub none-out : (before now : Names) (some : List (Writing W)) (names : List (List ℕ)) → length some ≡ 0
      → AreOut label before now some names → AreSameNames before now
  none-out None now some names none out = out.too
  none-out (Some before) now [] [] none out = none-too (Some before) now out.too
  none-out (Some before) now [] (name ∷ names) none out = let told : [] ≡ labels (name ∷ names) = out.told in absurd cc
  none-out (Some before) now (writing ∷ others) names none out = absurd (omega (arith, none))

  -- none is out yet
  pub none-from : (files : List DumpFile) (client : ℕ) (now : Names) (some : List (Writing W)) → length some ≡ 0
      → AreOutFrom label files client now now some
  none-from files client None [] none = record { too = tt; told = tt }
  none-from files client (Some now) [] none = record { too = too-none (Some now); told = refl }
  none-from files client now (writing ∷ others) none = absurd (omega (arith, none))

  one-told : (before : Names) (writing : Writing W) (name : List ℕ) → TellsName before (label writing.out) name
      → TellNames label before (writing ∷ []) (name ∷ [])
  one-told None writing name told = tt
  one-told (Some before) writing name told = ap (λ one. one ∷ []) told

  -- a writer goes out for a file
  pub goes-from : (files : List DumpFile) (client : ℕ) (file : DumpFile) (name : List ℕ) (before now : Names) (writing : Writing W)
      → client < length files → file ≡ get_or files client file → name ≡ file_name file
      → GoesOut before now name → TellsName before (label writing.out) name → AreOutFrom label files client before now (writing ∷ [])
  goes-from files client file name before now writing below is named out told =
      let one : AreOut label before now (writing ∷ []) (name ∷ []) =
      record { too = too-goes before now name out; told = one-told before writing name told } in
      subst (AreOut label before now (writing ∷ [])) (sym (names-first files client 0 file below is ∙ ap (λ first. first ∷ []) (sym named)))
      one

  -- the first one of those that are out for files
  pub from-first : (files : List DumpFile) (client : ℕ) (file : DumpFile) (name : List ℕ) (before now : Names) (some : List (Writing W))
      (writing : Writing W) (others : List (Writing W)) → some ≡ writing ∷ others
      → client < length files → file ≡ get_or files client file → name ≡ file_name file → AreOutFrom label files client before now some
      → AreOut label before now (writing ∷ others) (name ∷ names_from files (client + 1) (length others))
  from-first files client file name before now some writing others parts below is named out =
      let P : List (Writing W) → Type 0 = λ all. AreOutFrom label files client before now all in
      subst (AreOut label before now (writing ∷ others))
      (names-first files client (length others) file below is
      ∙ ap (λ first. first ∷ names_from files (client + 1) (length others)) (sym named)) (subst P parts out)

  more-told : (before mid : Names) (first second : List (List ℕ)) (some more : List (Writing W)) → AreOutToo before mid first
      → TellNames label before some first → TellNames label mid more second
      → TellNames label before (some ++ more) (first ++ second)
  more-told None mid first second some more out told later = tt
  more-told (Some before) None first second some more out told later = absurd out
  more-told (Some before) (Some mid) first second some more out told later =
      map-append label_of some more ∙ ap (λ front. front ++ map label_of more) told ∙ ap (λ back. labels first ++ back) later
      ∙ sym (map-append (λ (name : List ℕ). Some name) first second)

  -- writers go out for more files
  pub then-from : (files : List DumpFile) (client next : ℕ) (before mid now : Names) (some more : List (Writing W))
      → next ≡ client + length some → AreOutFrom label files client before mid some
      → AreOutFrom label files next mid now more → AreOutFrom label files client before now (some ++ more)
  then-from files client next before mid now some more behind out later =
      let first = names_from files client (length some) in
      let second = names_from files next (length more) in
      let names : names_from files client (length (some ++ more)) ≡ first ++ second =
      ap (names_from files client) (length-append some more) ∙ names-more files client (length some) (length more)
      ∙ ap (λ place. first ++ names_from files place (length more)) (sym behind) in
      subst (AreOut label before now (some ++ more)) (sym names)
      record {
        too = too-then before mid now first second out.too later.too;
        told =
            more-told before mid first second some more out.too out.told later.told;
      }

  -- where none was left
  pub refilled-from : (files : List DumpFile) (client : ℕ) (before old new : Names) (none some : List (Writing W)) → length none ≡ 0
      → AreOutFrom label files client before old none
      → AreOutFrom label files client old new some → AreOutFrom label files client before new some
  refilled-from files client before old new [] some empty out later =
      then-from files client client before old new [] some (omega arith) out later
  refilled-from files client before old new (writing ∷ others) some empty out later = absurd (omega (arith, empty))

  labels-stay : (old new : List (Writing W)) → length new ≡ length old
      → ((k : ℕ) (d : Writing W) → k < length old → label (slice_index_or new k d).out ≡ label (slice_index_or old k d).out)
      → map label_of new ≡ map label_of old
  labels-stay [] [] same stay = refl
  labels-stay [] (y ∷ new) same stay = absurd (omega (arith, same))
  labels-stay (x ∷ old) [] same stay = absurd (omega (arith, same))
  labels-stay (x ∷ old) (y ∷ new) same stay =
      ap (λ first. first ∷ map label_of new) (stay 0 x (omega arith))
      ∙ ap (λ rest. label_of x ∷ rest) (labels-stay old new (omega (arith, same)) (λ k d below. stay (suc k) d (omega (arith, below))))

  stay-told : (before : Names) (old new : List (Writing W)) (names : List (List ℕ)) → map label_of new ≡ map label_of old
      → TellNames label before old names → TellNames label before new names
  stay-told None old new names same told = tt
  stay-told (Some before) old new names same told = same ∙ told

  -- dumps are written on
  pub stay-from : (files : List DumpFile) (client : ℕ) (before now : Names) (old new : List (Writing W)) → length new ≡ length old
      → ((k : ℕ) (d : Writing W) → k < length old → label (slice_index_or new k d).out ≡ label (slice_index_or old k d).out)
      → AreOutFrom label files client before now old
      → AreOutFrom label files client before now new
  stay-from files client before now old new same stay out =
      let told = stay-told before old new (names_from files client (length old)) (labels-stay old new same stay) out.told in
      subst (λ count. AreOut label before now new (names_from files client count)) (sym same) record { too = out.too; told = told }
