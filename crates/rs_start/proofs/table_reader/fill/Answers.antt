use Rattle.std.proofs.Common.{◌≡◌, ◌-◌, ◌≤◌, ◌++◌, length, take, drop, ℕ, arith, length-append, length-take}
use Rattle.std.proofs.lemmas.List.{length-take-le, length-drop}
use Rattle.rs_start.proofs.ReadingLemmas.{came_given}
use Rattle.rs_start.proofs.table_reader.fill.Goals as goal

pub loop-came-preserved : goal.loop-came-preserved
loop-came-preserved g c =
    let R = g.R.Read in
    let l = c.loop-came in
    let front = take l.came l.into in
    let part = c.read.new.into in
    let rest = drop (c.args.len - l.came) (drop l.came l.into) in
    let room : c.args.len ≤ length l.into = omega (arith, l.invariant.same, c.requires.room) in
    let long : length front ≡ l.came = length-take-le l.came l.into (omega (arith, l.invariant.fits, room)) in
    let size : length part ≡ c.args.len - l.came =
    omega (arith, c.read.auto.into, length-take {A = ℕ}, length-drop {A = ℕ}, room, l.invariant.fits) in
    let all : length (front ++ (part ++ rest)) ≡ length l.into =
    omega (
      arith,
      length-append front (part ++ rest),
      length-append part rest,
      length-drop (c.args.len - l.came) (drop l.came l.into),
      length-drop l.came l.into,
      l.invariant.fits,
      room,
      long,
      size,
    ) in
    record {
      fits = omega (arith, c.in-Ok.ensures.bound, size, l.invariant.fits);
      same = omega (arith, all, l.invariant.same);
      counts = omega (arith, c.in-Ok.ensures.failures, l.invariant.counts);
      came = came_given (R.gives c.args.reader.now) (R.gives l.reader) (R.gives c.read.new.self) front part rest l.came c.in-Ok.count long
          (omega (arith, c.in-Ok.count-test)) c.in-Ok.ensures.bound l.invariant.came c.in-Ok.ensures.gives;
    }
