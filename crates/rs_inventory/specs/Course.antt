-- How the records of a peer begin and go on (RFC 4271, sections 4 and 8; RFC 6396, section 4.4.4). Our choice: which
-- records show that a session begins, is up or is lost.
use Rattle.std.specs.Prelude.{ℕ, ◌&&◌, ◌||◌, not, Bool, true, false, if◌then◌else◌, List, [], ◌∷◌, Option, Some, None}
use Rattle.std.specs.Prelude.{reverse}
use Rattle.std.specs.Option.{option_map}
use Rattle.rs_inventory.specs.declared.course.Course.{Course}
use Rattle.rs_inventory.specs.declared.finding.News.{News}
use Rattle.rs_inventory.specs.declared.finding.News.TheVariants as news

-- the meaning of a record for a peer, with its Timestamp
abbrev pub Timed : Type 0
Timed = ℕ × News

-- a session begins with an OPEN or with a change to Established
abbrev pub begins : News → Bool
begins (news.Open identifier) = true
begins (news.TwoOctetOpen identifier) = true
begins news.Up = true
begins other = false

-- an UPDATE comes only of a session that is up (RFC 4271, section 8.2.2)
abbrev pub shows_up : News → Bool
shows_up (news.Update announced withdrawn) = true
shows_up news.Up = true
shows_up other = false

-- a session is lost with a change from Established, and with a NOTIFICATION (RFC 4271, section 6.4)
abbrev pub is_loss : News → Bool
is_loss news.Notification = true
is_loss news.Down = true
is_loss other = false

-- a recording that begins with an OPEN or a change of state misses no part of the session
abbrev pub is_start : News → Bool
is_start (news.Open identifier) = true
is_start (news.TwoOctetOpen identifier) = true
is_start news.Up = true
is_start news.Down = true
is_start news.State = true
is_start other = false

-- an OPEN with two-octet AS numbers is no record that a route server reads (our choice)
abbrev pub is_read : News → Bool
is_read (news.TwoOctetOpen identifier) = false
is_read other = true

-- the first of some records
abbrev pub first_one : List Timed → Option Timed
first_one [] = None
first_one (one ∷ later) = Some one

-- the recording begins in mid-session
abbrev pub begins_inside : Option Timed → Bool
begins_inside None = false
begins_inside (Some one) = not (is_start one.1)

-- the time of the first of some records that a route server reads
abbrev pub first_read_in : List Timed → Option ℕ
first_read_in [] = None
first_read_in (one ∷ later) = if is_read one.1 then Some one.0 else first_read_in later

-- a record is there, and a session is lost with it
abbrev pub loses : Option Timed → Bool
loses None = false
loses (Some one) = is_loss one.1

-- ---- records in reverse order

-- the session is up: some record since its last loss shows that it is up
abbrev pub is_up : List Timed → Bool
is_up [] = false
is_up (one ∷ earlier) = if is_loss one.1 then false else shows_up one.1 || is_up earlier

-- the last time since its last loss at which the session began while it was up
abbrev pub again_at : List Timed → Option ℕ
again_at [] = None
again_at (one ∷ earlier) =
    if is_loss one.1 then None else if begins one.1 && is_up earlier then Some one.0 else again_at earlier

-- ---- all records of a peer

unfoldable pub course_of : List Timed → Course
course_of told = record {
  first = option_map (λ t. t.0) (first_one told);
  last = option_map (λ t. t.0) (first_one (reverse told));
  first_read = first_read_in told;
  last_read = first_read_in (reverse told);
  inside = begins_inside (first_one told);
  up = is_up (reverse told);
  again = again_at (reverse told);
  lost = loses (first_one (reverse told));
}

-- ---- one more record

-- the first time, after one more record
abbrev pub first_with : ℕ → Option ℕ → ℕ
first_with time None = time
first_with time (Some first) = first

-- whether the recording begins in mid-session, after one more record
abbrev pub inside_with : News → Option ℕ → Bool → Bool
inside_with one None inside = not (is_start one)
inside_with one (Some first) inside = inside

-- the first time of a record that is read, after one more record
abbrev pub first_read_with : ℕ → News → Option ℕ → Option ℕ
first_read_with time one None = if is_read one then Some time else None
first_read_with time one (Some first) = Some first

abbrev pub course_with : ℕ → News → Course → Course
course_with time one c = record {
  first = Some (first_with time c.first);
  last = Some time;
  first_read = first_read_with time one c.first_read;
  last_read = if is_read one then Some time else c.last_read;
  inside = inside_with one c.first c.inside;
  up = if is_loss one then false else shows_up one || c.up;
  again = if is_loss one then None else if begins one && c.up then Some time else c.again;
  lost = is_loss one;
}
