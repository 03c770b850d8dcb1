-- The beginning of a session grows, and is written whole.
use Rattle.std.proofs.Common.{◌≡◌, ℕ, ◌∙◌, List, [], ◌∷◌, ◌++◌, Option, Some, None, ap, sym, subst, append_assoc, map}
use Rattle.std.specs.List.{AllByRecursion}
use Rattle.std.specs.Io.KnownBytes.{Appends}
use Rattle.std.proofs.lemmas.Grind.{flat_map-append}
use Rattle.std.proofs.lemmas.List.{append-nil}
use Rattle.rs_mrt.specs.Record.{record_spelling}
use Rattle.rs_session.specs.FileChanges.{changes_in_by}
use Rattle.rs_start.specs.declared.start.Start.{Start}
use Rattle.rs_start.specs.Laws.{OpeningAnnounces}
use Rattle.rs_start.specs.Opening.{Announcing, announced, IsSound, IsStart, TableRoute, announcing_record, opening_spelling, routes_in}
use Rattle.rs_start.specs.Opening.{routes_of}
use Rattle.rs_start.specs.Opening.{up_record, updates_spelling}
use Rattle.rs_start.specs.Writing.{Closes, Ends, Flushes, Goes, IsBegun, Writing}

all_more : (updates later : List Announcing) → AllByRecursion IsSound updates → AllByRecursion IsSound later
    → AllByRecursion IsSound (updates ++ later)
all_more [] later each after = after
all_more (update ∷ updates) later each after = (each.0, all_more updates later each.1 after)

updates_more : (start : Start) (updates later : List Announcing)
    → opening_spelling start (updates ++ later) ≡ opening_spelling start updates ++ updates_spelling start later
updates_more start updates later =
    let spell : Announcing → List ℕ = λ update. record_spelling (announcing_record start update) in
    ap (λ (octets : List ℕ). record_spelling (up_record start) ++ octets) (flat_map-append spell updates later)
    ∙ sym (append_assoc (record_spelling (up_record start)) (updates_spelling start updates) (updates_spelling start later))

pub appends_more : (old mid new : Option (List ℕ)) (first second : List ℕ) → Appends old mid first → Appends mid new second
    → Appends old new (first ++ second)
appends_more None mid new first second before after = tt
appends_more (Some xs) None new first second before after = absurd before
appends_more (Some xs) (Some ys) None first second before after = absurd after
appends_more (Some xs) (Some ys) (Some zs) first second before after =
    after ∙ ap (λ (octets : List ℕ). octets ++ second) before ∙ append_assoc xs first second

module _ {W : Type 0} (taken : W → Option (List ℕ)) where
  pub goes-then : (old mid new : Writing W) (more later : List TableRoute) → Goes taken old mid more → Goes taken mid new later
      → Goes taken old new (more ++ later)
  goes-then old mid new more later first second before routes begun =
      subst (λ (all : List TableRoute). IsBegun taken before new all) (append_assoc routes more later)
      (second before (routes ++ more) (first before routes begun))

  -- nothing was added
  pub same_routes : (before : Option (List ℕ)) (new : Writing W) (routes : List TableRoute) → IsBegun taken before new routes
      → IsBegun taken before new (routes ++ [])
  same_routes before new routes begun =
      subst (λ (all : List TableRoute). IsBegun taken before new all) (sym (append-nil routes)) begun

  pub closes-goes : (old new : Writing W) → Closes old new → Goes taken old new []
  closes-goes old new closes before routes begun =
      let spelled = updates_spelling old.start old.held in
      let held : routes_in new.held ≡ [] = ap routes_in closes.held in
      same_routes before new routes (record {
        sent = begun.sent;
        updates = begun.updates ++ old.held;
        appends = subst (λ (out : W). Appends before (taken out) begun.sent) (sym closes.out) begun.appends;
        follows = ap (λ (octets : List ℕ). begun.sent ++ octets) closes.waiting
            ∙ sym (append_assoc begun.sent old.waiting spelled)
            ∙ ap (λ (octets : List ℕ). octets ++ spelled) begun.follows
            ∙ sym (updates_more old.start begun.updates old.held)
            ∙ ap (λ (start : Start). opening_spelling start (begun.updates ++ old.held)) (sym closes.start);
        sound = all_more begun.updates old.held begun.sound closes.sound;
        adds_up = ap (λ (all : List TableRoute). routes_in (begun.updates ++ old.held) ++ all) held
            ∙ append-nil (routes_in (begun.updates ++ old.held))
            ∙ flat_map-append routes_of begun.updates old.held
            ∙ begun.adds_up;
      })

  pub flushes-goes : (old new : Writing W) → Flushes taken old new → Goes taken old new []
  flushes-goes old new flushes before routes begun =
      same_routes before new routes (record {
        sent = begun.sent ++ old.waiting;
        updates = begun.updates;
        appends = appends_more before (taken old.out) (taken new.out) begun.sent old.waiting begun.appends flushes.appends;
        follows = ap (λ (octets : List ℕ). (begun.sent ++ old.waiting) ++ octets) flushes.waiting
            ∙ append-nil (begun.sent ++ old.waiting) ∙ begun.follows
            ∙ ap (λ (start : Start). opening_spelling start begun.updates) (sym flushes.start);
        sound = begun.sound;
        adds_up = ap (λ (held : List Announcing). routes_in begun.updates ++ routes_in held) flushes.held ∙ begun.adds_up;
      })

  -- another UPDATE is being filled
  pub holds-goes : (old : Writing W) (held : List Announcing) (more : List TableRoute) → old.held ≡ [] → routes_in held ≡ more
      → Goes taken old (record old { held = held }) more
  holds-goes old held more none is before routes begun =
      record {
        sent = begun.sent;
        updates = begun.updates;
        appends = begun.appends;
        follows = begun.follows;
        sound = begun.sound;
        adds_up = ap (λ (all : List TableRoute). routes_in begun.updates ++ all) is
            ∙ ap (λ (all : List TableRoute). all ++ more)
            (sym (append-nil (routes_in begun.updates))
            ∙ ap (λ (all : List Announcing). routes_in begun.updates ++ routes_in all) (sym none) ∙ begun.adds_up);
      }

  pub ends : (old mid new : Writing W) → OpeningAnnounces → IsStart old.start → Goes taken old mid [] → mid.start ≡ old.start
      → mid.held ≡ [] → Flushes taken mid new → Ends taken old new
  ends old mid new announces fits goes start none flushes before routes begun =
      let last = flushes-goes mid new flushes before (routes ++ []) (goes before routes begun) in
      let same : new.start ≡ old.start = flushes.start ∙ start in
      let held : new.held ≡ [] = flushes.held ∙ none in
      let all : routes_in last.updates ≡ routes =
      sym (append-nil (routes_in last.updates))
      ∙ ap (λ (held : List Announcing). routes_in last.updates ++ routes_in held) (sym held) ∙ last.adds_up
      ∙ append-nil (routes ++ []) ∙ append-nil routes in
      let octets : last.sent ≡ opening_spelling old.start last.updates =
      sym (append-nil last.sent) ∙ ap (λ (rest : List ℕ). last.sent ++ rest) (sym flushes.waiting) ∙ last.follows
      ∙ ap (λ (start : Start). opening_spelling start last.updates) same in
      record {
        octets = last.sent;
        appends = last.appends;
        announces = λ errors behind.
            ap (λ (file : List ℕ). changes_in_by errors old.start.peer (file ++ behind)) octets
            ∙ announces errors old.start last.updates behind fits last.sound
            ∙ ap (λ (rs : List TableRoute). map (announced old.start.time) rs ++ changes_in_by errors old.start.peer behind) all;
      }
