-- Counts of two tallies are added: for tally.rt and on_threads.rt.
use Rattle.std.proofs.Common.{◌≡◌, ◌∙◌, sym, ap, subst, refl, arith, ℕ, zero, suc, ◌<◌, ◌≤◌, ◌+◌, ◌*◌, ◌/◌, ◌%◌, Bool, cond}
use Rattle.std.proofs.Common.{List, [], ◌++◌, length, map, min, count_by, All}
use Rattle.std.proofs.Common.{take}
use Rattle.std.specs.Fork.{slice_chunk}
use Rattle.std.specs.Prelude.{slice_index_or}
use Rattle.std.specs.List.{flat_map}
use Rattle.std.proofs.Math.Nat.{add-mul, lt-div-mul-add, one-mul, zero-mul}
use Rattle.std.proofs.lemmas.Grind.{flat_map-append}
use Rattle.std.proofs.lemmas.Nat.{div-add-mod'}
use Rattle.std.proofs.lemmas.List.{drop-take, map-append, take-append-drop, take-take, take_all}
use Rattle.std.proofs.lemmas.List.Elements.{All-append}
use Rattle.std.proofs.lemmas.List.Sums.{sum_by-append}
use Rattle.rs_update.specs.IpPrefix.{IpPrefix}
use Rattle.rs_table.specs.declared.prefix_routes.PrefixRoutes.{PrefixRoutes}
use Rattle.rs_table.specs.Content.{TablesContent}
use Rattle.rs_survey.specs.declared.finding.Finding.{Finding}
use Rattle.rs_survey.specs.declared.on_threads.Counted.{Counted}
use Rattle.rs_survey.specs.Counted.{CountsOn, counted_on}
use Rattle.rs_survey.specs.Findings.{IsKnown, is_same, key_of}
use Rattle.rs_survey.specs.Joined.{AreSums, IsJoined}
use Rattle.rs_survey.specs.Tally.{IsTally, TallyContent, digits, most, place_in}

-- counts that stop add up to a count that stops
saturates_both : (m n : ℕ) → min (min m most + min n most) most ≡ min (m + n) most
saturates_both m n = omega arith

count-append : (p : Finding → Bool) (some others : List Finding) →
    count_by p (some ++ others) ≡ count_by p some + count_by p others
count-append p some others = sum_by-append (λ x. cond (p x) 1 0) some others

tally_of_both : (one other : TallyContent) (sums : List ℕ) → other.peers ≡ one.peers → AreSums one.counts other.counts sums →
    (some others : List Finding) → IsTally one some → IsTally other others →
    IsTally (record { peers = one.peers; counts = sums }) (some ++ others)
tally_of_both one other sums peers are some others first second = record {
  known = All-append (IsKnown one.peers) some others first.known
      (subst (λ (peers : ℕ). All (IsKnown peers) others) peers second.known);
  counted = λ finding known.
      let place = place_in (digits one.peers) (key_of finding) in
      let also : slice_index_or other.counts place 0 ≡ min (count_by (is_same finding) others) most =
      ap (λ (peers : ℕ). slice_index_or other.counts (place_in (digits peers) (key_of finding)) 0) (sym peers)
      ∙ second.counted finding (subst (λ (peers : ℕ). IsKnown peers finding) (sym peers) known) in
      are place ∙ ap (λ (n : ℕ). min (n + slice_index_or other.counts place 0) most) (first.counted finding known)
      ∙ ap (λ (n : ℕ). min (min (count_by (is_same finding) some) most + n) most) also
      ∙ saturates_both (count_by (is_same finding) some) (count_by (is_same finding) others)
      ∙ ap (λ (n : ℕ). min n most) (sym (count-append (is_same finding) some others));
}

pub joined_is : (one other : TallyContent) (sums : List ℕ) → other.peers ≡ one.peers → AreSums one.counts other.counts sums →
    IsJoined one other (record { peers = one.peers; counts = sums })
joined_is one other sums peers are = record {
  peers = refl;
  counts = tally_of_both one other sums peers are;
}

-- ---- part after part

-- so many parts reach to the end
parts_span : (n count size : ℕ) → 0 < size → n ≡ count / size + min 1 (count % size) → count ≤ n * size
parts_span n count size some is = by_rest (count % size) refl
  where
    by_rest : (rest : ℕ) → count % size ≡ rest → count ≤ n * size
    by_rest zero none =
        let number : n ≡ count / size = omega (arith, is, none) in
        omega (arith, none, ap (λ m. m * size) number, div-add-mod' count size)
    by_rest (suc rest) some_more =
        let number : n ≡ count / size + 1 = omega (arith, is, some_more) in
        omega (arith, ap (λ m. m * size) number ∙ add-mul (count / size) 1 size, one-mul size, lt-div-mul-add {a = count} {b = size} some)

module _ (tables : TablesContent) (what : Counted) where
  pub counts_both : (front back : List IpPrefix) (one other both : TallyContent) → CountsOn tables what front one →
      CountsOn tables what back other → IsJoined one other both → CountsOn tables what (front ++ back) both
  counts_both front back one other both first second joined = record {
    peers = joined.peers ∙ first.peers;
    counts = subst (IsTally both) (sym (flat_map-append (counted_on tables what) front back))
        (joined.counts (flat_map (counted_on tables what) front) (flat_map (counted_on tables what) back) first.counts second.counts);
  }

  -- what is counted on a list of prefixes, of which each part has so many but for the last
  module _ (size : ℕ) (all : List PrefixRoutes) where
    abbrev pub CountsParts : ℕ → TallyContent → Type 0
    CountsParts n tally = CountsOn tables what (map (λ on. on.prefix) (take (n * size) all)) tally

    pub counts_no_part : (tally : TallyContent) → tally.peers ≡ length tables.plan.peers → IsTally tally [] → CountsParts 0 tally
    counts_no_part tally peers none = record {
      peers = peers;
      counts = subst (λ (n : ℕ). IsTally tally (flat_map (counted_on tables what) (map (λ on. on.prefix) (take n all))))
          (sym (zero-mul size)) none;
    }

    part_more : (n : ℕ) → take (n * size) all ++ slice_chunk all size n ≡ take ((n + 1) * size) all
    part_more n =
        let more = n * size + size in
        let before : take (n * size) (take more all) ≡ take (n * size) all = take-take (n * size) more all (omega arith) in
        let number : more ≡ (n + 1) * size = sym (add-mul n 1 size ∙ ap (λ m. n * size + m) (one-mul size)) in
        (λ i. sym before i ++ sym (drop-take (n * size) size all) i) ∙ take-append-drop (n * size) (take more all)
        ∙ ap (λ m. take m all) number

    pub counts_part_more : (n : ℕ) (part : List PrefixRoutes) (one other both : TallyContent) → part ≡ slice_chunk all size n →
        CountsParts n one → CountsOn tables what (map (λ on. on.prefix) part) other → IsJoined one other both → CountsParts (n + 1) both
    counts_part_more n part one other both is first second joined =
        let prefix_of : PrefixRoutes → IpPrefix = λ on. on.prefix in
        subst (λ (some : List IpPrefix). CountsOn tables what some both)
        (sym (map-append prefix_of (take (n * size) all) part)
        ∙ ap (map prefix_of) (ap (λ (part : List PrefixRoutes). take (n * size) all ++ part) is ∙ part_more n))
        (counts_both (map prefix_of (take (n * size) all)) (map prefix_of part) one other both first second joined)

    pub counts_all_parts : (n : ℕ) (tally : TallyContent) → 0 < size → n ≡ length all / size + min 1 (length all % size) →
        CountsParts n tally → CountsOn tables what (map (λ on. on.prefix) all) tally
    counts_all_parts n tally some count counts =
        subst (λ (all : List PrefixRoutes). CountsOn tables what (map (λ on. on.prefix) all) tally)
        (take_all (n * size) all (parts_span n (length all) size some count)) counts
