-- How a shared reading begins: for sharing.rt.
use Rattle.std.proofs.Common.{◌≡◌, ◌≤◌, ◌<◌, ◌^◌, ℕ, ◌+◌, ◌-◌, true, List, [], ◌∷◌, ◌++◌, map, Option, Some, None, All}
use Rattle.std.proofs.Common.{refl, ap, subst, sym, ◌∙◌, arith, inl, inr, length, take}
use Rattle.std.specs.Prelude.{◌⊎◌, slice_get, slice_index_or}
use Rattle.std.proofs.lemmas.List.{append-nil, map-append, take_more}
use Rattle.std.proofs.lemmas.Bool.{cases_Bool, cond-true, cond-false}
use Rattle.rtrb.specs.Ring.{sent}
use Rattle.rs_mrt.specs.declared.fault.SourceFault.{SourceFault}
use Rattle.rs_mrt.specs.declared.fault.SourceFault.TheVariants.{Read}
use Rattle.rs_share.proofs.TakingLemmas.{own-silent}
use Rattle.rs_mrt.specs.Record.{MrtRecord}
use Rattle.rs_mrt.specs.Source.{SomethingComes}
use Rattle.rs_types.specs.declared.peer_id.PeerId.{PeerId}
use Rattle.rs_share.specs.Batches.{Heard, silences, spread}
use Rattle.rs_share.specs.Lines.{TellsOn}
use Rattle.rs_share.specs.Own.{heard, is_for, own, silence}
use Rattle.rs_share.specs.Reading.{IsReading, ids_of}
use Rattle.rs_share.specs.Sharing.{ComesOf, IsOpened, IsSharing, untaken}
use Rattle.rs_share.specs.Taking.{Begins, ComesOpen, HasTaken, IsBegun, MayCome, Taking}
use Rattle.rs_share.specs.Telling.{Comes, octets_in, told, told_in}
use Rattle.rs_share.specs.declared.line.Line.{Line}
use Rattle.rs_share.specs.declared.part.Last.{Last}
use Rattle.rs_share.specs.declared.part.Part.{Part}
use Rattle.rs_share.specs.declared.reader.Reader.{Reader}
use Rattle.rs_share.proofs.DirectoryLemmas.{get-more}

-- ---- the first part

-- what is received of a ring with one item is that one
pub one-popped : {X : Type 0} (before known after rest : List X) (x first : X) → before ≡ [] → before ++ known ≡ first ∷ []
    → known ≡ x ∷ rest → after ≡ before ++ x ∷ [] → after ≡ first ∷ []
one-popped before known after rest x first none fifo pops is =
    let whole : x ∷ rest ≡ first ∷ [] = sym pops ∙ ap (λ xs. xs ++ known) (sym none) ∙ fifo in
    let same : x ≡ first = cc in
    is ∙ ap (λ xs. xs ++ x ∷ []) none ∙ ap (λ y. y ∷ []) same

module _ {S : Type 0} (source : S) (peer : PeerId) (sent_parts received_parts : List (Part S))
    (o : IsOpened source peer sent_parts received_parts) where
  -- it tells nothing
  first-tells : told (o.first ∷ []) ≡ []
  first-tells =
      append-nil (told_in o.first.batch o.first.last)
      ∙ ap (λ (hs : List Heard). told_in hs o.first.last) o.none ∙ ap (λ (l : Option Last). told_in [] l) o.no_last

  begun-by : (parts : List (Part S)) → parts ≡ o.first ∷ [] → IsBegun source peer parts
  begun-by parts is = record {
    first = o.first;
    begin = o.begin;
    rest = [];
    splits = is;
    begins = o.begins;
    source_is = o.source_is;
    peer_is = o.peer_is;
  }

  pub told-none : told received_parts ≡ []
  told-none = ap told o.received_is ∙ first-tells

  pub has-begun : (comes : Comes S) (room : S → ℕ) (batch : List Heard) → batch ≡ [] → SomethingComes (comes source)
      → room source ≤ 2 ^ 50 → HasTaken comes room source peer received_parts batch 0 None
  has-begun comes room batch none some few =
      subst (λ (hs : List Heard). HasTaken comes room source peer received_parts hs 0 None) (sym none) (record {
        begun = begun-by received_parts o.received_is;
        is_told = record {
          records = some.0;
          end = some.1;
          given = some.2;
          rest = heard peer some.0;
          splits = ap (λ (rs : List MrtRecord). rs ++ heard peer some.0) (sym told-none);
          ends = tt;
        };
        own = λ k d less. absurd (omega (arith, less));
        octets = let no = ap octets_in told-none in omega (arith, no);
        left = omega arith;
        few = few;
      })

  pub line-begins : (line : Line S) → line.source.value ≡ source → line.id ≡ peer → sent line.parts ≡ sent_parts
      → line.batch ≡ [] → line.seen ≡ 0 → TellsOn line []
  line-begins line source_is id_is sent_is none seen goes = record {
    begun = subst (λ (s : S). IsBegun s line.id (sent line.parts)) (sym source_is)
        (subst (λ (p : PeerId). IsBegun source p (sent line.parts)) (sym id_is)
        (begun-by (sent line.parts) (sent_is ∙ o.sent_is)));
    splits = sym (
        ap (λ (ps : List (Part S)). told ps ++ (spread line.batch ++ silences (0 - line.seen))) (sent_is ∙ o.sent_is)
        ∙ ap (λ (rs : List MrtRecord). rs ++ (spread line.batch ++ silences (0 - line.seen))) first-tells
        ∙ ap (λ (hs : List Heard). spread hs ++ silences (0 - line.seen)) none
        ∙ (let zero_is : 0 - line.seen ≡ 0 = omega arith in ap silences zero_is));
    seen = omega (arith, seen);
    own = subst (λ (hs : List Heard). All (λ (h : Heard). is_for line.id h.own ≡ true) hs) (sym none)
        (λ k d less. absurd (omega (arith, less)));
  }

-- ---- one peer more

pub sharing-more : {S : Type 0} (room : S → ℕ) (old new : Reader S) (taken taken_after : List (Taking S)) (peers : List PeerId)
    (peer : PeerId) (line : Line S) (one : Taking S) → IsSharing room old taken peers → new.source ≡ old.source
    → new.count ≡ old.count → new.directory ≡ old.directory ++ peer ∷ [] → new.lines.items ≡ old.lines.items ++ line ∷ []
    → line.id ≡ peer → line.source.value ≡ old.source → TellsOn line [] → taken_after ≡ taken ++ one ∷ []
    → one ≡ untaken old.source peer → IsSharing room new taken_after (peers ++ peer ∷ [])
sharing-more {S} room old new taken taken_after peers peer line one is source_is count_is directory_is lines_are id_is of_source tells
    taken_are one_is = record {
      directory = directory_is ∙ ap (λ (ps : List PeerId). ps ++ peer ∷ []) is.directory;
      ids = ap ids_of lines_are ∙ map-append (λ (l : Line S). l.id) old.lines.items (line ∷ [])
          ∙ ap (λ (ps : List PeerId). ps ++ line.id ∷ []) is.ids ∙ ap (λ (p : PeerId). peers ++ p ∷ []) id_is;
      tell = λ k l at. elim (get-more old.lines.items line l k (ap (λ (ls : List (Line S)). slice_get ls k) (sym lines_are) ∙ at)) [
        | inl front ↦ is.tell k l front
        | inr last ↦ subst (λ (x : Line S). TellsOn x []) last.1 tells
      ];
      are_of = λ k l at. elim (get-more old.lines.items line l k (ap (λ (ls : List (Line S)). slice_get ls k) (sym lines_are) ∙ at)) [
        | inl front ↦ (is.are_of k l front ∙ sym source_is)
        | inr last ↦ (ap (λ (x : Line S). x.source.value) (sym last.1) ∙ of_source ∙ sym source_is)
      ];
      count = count_is ∙ is.count;
      taken_is = taken_are ∙ ap (λ (ts : List (Taking S)). ts ++ one ∷ []) is.taken_is
          ∙ ap (λ (t : Taking S). map (untaken old.source) peers ++ t ∷ []) one_is
          ∙ sym (map-append (untaken old.source) peers (peer ∷ []))
          ∙ ap (λ (s : S). map (untaken s) (peers ++ peer ∷ [])) (sym source_is);
      few = subst (λ (s : S). room s ≤ 2 ^ 50) (sym source_is) is.few;
    }

pub reading-of : {S : Type 0} (comes : Comes S) (room : S → ℕ) (reader : Reader S) (taken : List (Taking S)) (peers : List PeerId)
    → IsSharing room reader taken peers → IsReading comes room reader
reading-of comes room reader taken peers is = record {
  source = reader.source;
  given = [];
  walked = λ later end come. come;
  octets = omega arith;
  few = is.few;
  tell = is.tell;
  are_of = is.are_of;
  counted = sym is.count;
  ids = is.ids ∙ sym is.directory;
}

pub one-untaken : {S : Type 0} (source value : S) (peer : PeerId) (all left : List MrtRecord) → value ≡ source → all ≡ [] → left ≡ []
    → record { source = value; peer = peer; told = all; left = left; shown = None; others = 0; stopped = None } ≡ untaken source peer
one-untaken {S} source value peer all left is none nothing =
    let at : S → List MrtRecord → List MrtRecord → Taking S =
    λ s told left. record { source = s; peer = peer; told = told; left = left; shown = None; others = 0; stopped = None } in
    ap (λ (s : S). at s all left) is ∙ ap (λ (rs : List MrtRecord). at source rs left) none
    ∙ ap (λ (rs : List MrtRecord). at source [] rs) nothing

-- one peer more of a list
pub sharing-next : {S : Type 0} (room : S → ℕ) (reader : Reader S) (taken : List (Taking S)) (peers : List PeerId) (place : ℕ)
    (peer : PeerId) → peer ≡ slice_index_or peers place peer → place < length peers
    → IsSharing room reader taken (take place peers ++ peer ∷ []) → IsSharing room reader taken (take (place + 1) peers)
sharing-next room reader taken peers place peer is less sharing =
    subst (λ (ps : List PeerId). IsSharing room reader taken ps)
    (sym (take_more peers place peer less ∙ ap (λ (p : PeerId). take place peers ++ p ∷ []) (sym is))) sharing

-- ---- what comes for a peer

own-heard : (peer : PeerId) (rs : List MrtRecord) → own peer (heard peer rs) ≡ own peer rs
own-heard peer [] = refl
own-heard peer (r ∷ rs) =
    elim (cases_Bool (is_for peer r)) [
      | inl is ↦
          (ap (λ (x : MrtRecord). own peer (x ∷ heard peer rs)) (cond-true (is_for peer r) r silence is)
          ∙ cond-true (is_for peer r) (r ∷ own peer (heard peer rs)) (own peer (heard peer rs)) is
          ∙ ap (λ (xs : List MrtRecord). r ∷ xs) (own-heard peer rs)
          ∙ sym (cond-true (is_for peer r) (r ∷ own peer rs) (own peer rs) is))
      | inr other ↦
          (ap (λ (x : MrtRecord). own peer (x ∷ heard peer rs)) (cond-false (is_for peer r) r silence other)
          ∙ own-silent peer 1 (heard peer rs) ∙ own-heard peer rs
          ∙ sym (cond-false (is_for peer r) (r ∷ own peer rs) (own peer rs) other))
    ]

comes-begun : {S : Type 0} (comes : Comes S) (source : S) (peer : PeerId) (records : List MrtRecord) (end : Option SourceFault)
    → SomethingComes (comes source) → end ≡ Some Read → (records ≡ []) ⊎ Begins comes (untaken source peer) records
    → ComesOf comes source peer records end
comes-begun comes source peer records end some fails (inl none) = record {
  all = some.0;
  last = some.1;
  given = some.2;
  rest = own peer some.0;
  splits = ap (λ (rs : List MrtRecord). rs ++ own peer some.0) (sym none);
  ends = inr fails;
}
comes-begun comes source peer records end some fails (inr b) = record {
  all = b.hears.records;
  last = b.end;
  given = b.hears.given;
  rest = b.rest;
  splits = sym (own-heard peer b.hears.records) ∙ ap (own peer) (b.hears.splits ∙ sym b.hears.is_later) ∙ b.splits;
  ends = inr fails;
}

comes-open : {S : Type 0} (comes : Comes S) (source : S) (peer : PeerId) (records : List MrtRecord) (end : Option SourceFault)
    → SomethingComes (comes source) → ComesOpen comes (untaken source peer) records end → ComesOf comes source peer records end
comes-open comes source peer records end some (inl whole) =
    let h = whole.hears in
    record {
      all = h.records;
      last = end;
      given = h.given;
      rest = [];
      splits = sym (append-nil records ∙ whole.are ∙ ap (own peer) (h.is_later ∙ sym h.splits) ∙ own-heard peer h.records);
      ends = inl (refl, refl);
    }
comes-open comes source peer records end some (inr part) = comes-begun comes source peer records end some part.fails part.begins

pub comes-of : {S : Type 0} (comes : Comes S) → ((source : S) → SomethingComes (comes source)) → (source : S) (peer : PeerId)
    (records : List MrtRecord) (end : Option SourceFault) → MayCome comes (untaken source peer) records end
    → ComesOf comes source peer records end
comes-of comes may source peer records end come = comes-open comes source peer records end (may source) come
