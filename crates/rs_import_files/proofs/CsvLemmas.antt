-- What a reader of CSV has read, record by record, and what the records of a text then are.
use Rattle.std.proofs.Common.{◌≡◌, ◌∙◌, ℕ, Bool, true, false, List, [], ◌∷◌, ◌++◌, Bor, Option, None, Some, inl, inr, subst, sym, ap, refl}
use Rattle.std.proofs.lemmas.List.Elements.{All-head, All-push, All-tail}
use Rattle.std.proofs.lemmas.Option.{same_Some}
use Rattle.std.specs.List.{All, AllZip, filter}
use Rattle.csv.specs.Machine.{Read, next_record}
use Rattle.csv.specs.Reading.{AreRecords, ExplainsRead, NextIs, Reached, ReadRecord, Ready, ReadsNext, TookRecord, default_config, pending_of, took_first}
use Rattle.csv.specs.Records.{AllText}
use Rattle.csv.specs.declared.error.ErrorKind.{ErrorKind}
use Rattle.csv.specs.declared.error.ErrorKind.TheVariants as kind
use Rattle.csv.specs.declared.parser.Config.{Config}
use Rattle.csv.specs.declared.parser.State.{State}
use Rattle.csv.specs.declared.parser.State.TheVariants as st
use Rattle.csv.specs.declared.reader.Reader.{Reader}
use Rattle.csv.specs.declared.reader.Trim.TheVariants as trim
use Rattle.csv.proofs.ReadFacts.{rows-end, rows-more}
use Rattle.rs_import_files.specs.Csv.{AreRecordsOf, AreTitles, AreVrpsBelow, IsCsvOfVrps, IsVrpRecord, is_counted}
use Rattle.rs_import_files.specs.Rows.{Goes, HasRead, is_utf8_fault}
use Rattle.rs_types.specs.declared.vrp.Vrp.{Vrp}
use Rattle.rs_import_files.proofs.LineLemmas.{none_between}

pub goes : (text : List ℕ) (records : List (List (List ℕ))) (old new : Reader (Bor (List ℕ))) (fields : List (List ℕ)) (found : Bool)
    → (old.trim ≡ trim.None → Ready old → ReadRecord (λ octets. Some octets.now) old new found fields)
    → (old.trim ≡ trim.None → took_first new ≡ true)
    → (old.trim ≡ trim.None → AllText fields)
    → HasRead text records old
    → Goes text records fields new found
goes text records old new fields true reads first texts (plain, ready, config, rest, source, reached, all) =
    let read = reads plain ready in
    let (later, at, more) = rows-more (λ (octets : Bor (List ℕ)). Some octets.now) old new fields default_config st.StartRecord text rest
    records config source reached read in
    (read.3 ∙ plain, inl (first plain), read.2 ∙ config, later, at, more, All-push AllText records fields all (texts plain))
goes text records old new fields false reads first texts (plain, ready, config, rest, source, reached, all) = (
  (
    old.state,
    rest,
    reached,
    rows-end (λ (octets : Bor (List ℕ)). Some octets.now) old new fields default_config rest config source (reads plain ready),
  ),
  all,
)

-- the records of a text begin with those that were reached in it
reached_front : (cfg : Config) (s s2 : State) (xs ys : List ℕ) (front all : List (List (List ℕ))) → Reached cfg s xs front s2 ys
    → AreRecords cfg s xs all → (more : List (List (List ℕ))) × (all ≡ front ++ more) × AreRecords cfg s2 ys more
unfolding Reached
reached_front cfg s s2 xs ys [] all (state, octets) are =
    (all, refl, subst (λ one. AreRecords cfg one ys all) state (subst (λ text. AreRecords cfg s text all) octets are))
reached_front cfg s s2 xs ys (r ∷ front) [] (p, next, is, later) (s3, zs, (state, octets), none) =
    absurd (cc (sym next ∙ ap (λ one. next_record cfg one [] [] xs) state ∙ ap (next_record cfg s3 [] []) octets ∙ none))
reached_front cfg s s2 xs ys (r ∷ front) (q ∷ all) (p, next, is, later) (s3, zs, (o, other, same, rest), none) =
    let equal : p ≡ o = same_Some p o (sym next ∙ other) in
    let (more, split, left) = reached_front cfg p.1 s2 p.2 ys front all later
    (subst (λ (one : Read). AreRecords cfg one.1 one.2 all) (sym equal) (s3, zs, rest, none)) in
    let first : q ≡ r = same ∙ ap (λ (one : Read). one.0) (sym equal) ∙ sym is in
    (more, ap (λ one. one ∷ all) first ∙ ap (λ later. r ∷ later) split, left)

pub begins : (text : List ℕ) (records all : List (List (List ℕ))) (reader : Reader (Bor (List ℕ))) → HasRead text records reader
    → AreRecordsOf text all → (more : List (List (List ℕ))) × (all ≡ records ++ more)
begins text records all reader (plain, ready, config, rest, source, reached, texts) (are, all_texts) =
    let (more, split, left) = reached_front default_config st.StartRecord reader.state text rest records all reached are in
    (more, split)

-- a read that took a record tells the next one
took : (known : Option (List ℕ)) (cfg : Config) (s s2 : State) (xs : List ℕ) (fields : List (List ℕ)) → ReadsNext cfg s (Some xs) known true fields s2
    → (p : Read) × (next_record cfg s [] [] xs ≡ Some p) × (fields ≡ p.0)
took None cfg s s2 xs fields reads = absurd reads
took (Some ys) cfg s s2 xs fields reads = next (next_record cfg s [] [] xs) refl reads
  where
    next : (one : Option Read) → next_record cfg s [] [] xs ≡ one → NextIs one true fields s2 ys
        → (p : Read) × (next_record cfg s [] [] xs ≡ Some p) × (fields ≡ p.0)
    next None is reads = absurd (cc reads)
    next (Some p) is reads = (p, is, reads.1)

-- why a read failed that told of octets which aren't UTF-8
pub not_text : (old new : Reader (Bor (List ℕ))) (why : ErrorKind) → is_utf8_fault why ≡ true
    → ExplainsRead (λ octets. Some octets.now) old new true why
    → (fields : List (List ℕ)) × TookRecord (λ octets. Some octets.now) old new fields × ¬ (AllText fields)
not_text old new (kind.Utf8 pos err) is explains = (explains.1, explains.2, explains.3)
not_text old new (kind.Io e) is explains = absurd (cc is)
not_text old new kind.OutOfMemory is explains = absurd (cc is)
not_text old new (kind.UnequalLengths pos expected len) is explains = absurd (cc is)
not_text old new (kind.Serialize text) is explains = absurd (cc is)
not_text old new (kind.Deserialize pos err) is explains = absurd (cc is)

all_behind : (front back : List (List (List ℕ))) → All AllText (front ++ back) → All AllText back
all_behind [] back all = all
all_behind (x ∷ front) back all = all_behind front back (All-tail AllText x (front ++ back) all)

-- a text whose next record isn't UTF-8 has no records
pub no_records : (text : List ℕ) (records all : List (List (List ℕ))) (old new : Reader (Bor (List ℕ))) (fields : List (List ℕ))
    → HasRead text records old → TookRecord (λ octets. Some octets.now) old new fields → ¬ (AllText fields) → ¬ (AreRecordsOf text all)
unfolding Reached
no_records text records all old new fields (plain, ready, config, rest, source, reached, texts) read none (are, all_texts) =
    let (more, split, left) = reached_front default_config st.StartRecord old.state text rest records all reached are in
    let (p, next, is) = took (pending_of (Some new.rdr.now) new) default_config old.state new.state rest fields (rw (config, source) at read) in
    none (ended more split left p next is)
  where
    ended : (more : List (List (List ℕ))) → all ≡ records ++ more → AreRecords default_config old.state rest more → (p : Read)
        → next_record default_config old.state [] [] rest ≡ Some p → fields ≡ p.0 → AllText fields
    ended [] split (s3, zs, (state, octets), end) p next is =
        absurd (cc (sym next ∙ ap (λ one. next_record default_config one [] [] rest) state ∙ ap (next_record default_config s3 [] []) octets ∙ end))
    ended (r ∷ more) split (s3, zs, (o, other, same, later), end) p next is =
        let equal : p ≡ o = same_Some p o (sym next ∙ other) in
        let first : r ≡ fields = same ∙ ap (λ (one : Read). one.0) (sym equal) ∙ sym is in
        subst AllText first (All-head AllText r more (all_behind records (r ∷ more) (subst (All AllText) split all_texts)))

-- a text with a first record that is no titles says no VRPs
pub untitled : (text : List ℕ) (fields : List (List ℕ)) (reader : Reader (Bor (List ℕ))) → HasRead text (fields ∷ []) reader
    → ((vrps : List Vrp) → AreTitles fields → ¬ (AreVrpsBelow fields text vrps)) → (vrps : List Vrp) → ¬ (IsCsvOfVrps text vrps)
untitled text fields reader read none vrps (inl (are, empty)) =
    let (more, split) = begins text (fields ∷ []) [] reader read are in
    absurd (cc split)
untitled text fields reader read none vrps (inr (titles, named, (rows, are, counted))) =
    let (more, split) = begins text (fields ∷ []) (titles ∷ rows) reader read are in
    let first : titles ≡ fields = cc in
    none vrps (subst AreTitles first named) (subst (λ one. AreVrpsBelow one text vrps) first (rows, are, counted))

-- a text with a record below the titles that counts and stands for nothing says no VRPs
pub no_vrps : (text : List ℕ) (titles : List (List ℕ)) (rows : List (List (List ℕ))) (fields : List (List ℕ)) (reader : Reader (Bor (List ℕ)))
    → HasRead text (titles ∷ (rows ++ fields ∷ [])) reader → is_counted fields ≡ true → ((vrp : Vrp) → ¬ (IsVrpRecord fields vrp))
    → (vrps : List Vrp) → ¬ (AreVrpsBelow titles text vrps)
no_vrps text titles rows fields reader read counts none vrps (all, are, counted) =
    let (more, split) = begins text (titles ∷ (rows ++ fields ∷ [])) (titles ∷ all) reader read are in
    let below : all ≡ (rows ++ fields ∷ []) ++ more = cc in
    none_between is_counted IsVrpRecord rows fields more counts none vrps (subst (λ one. AllZip IsVrpRecord (filter is_counted one) vrps) below counted)
