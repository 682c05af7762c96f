-- Room for four numbers first; then what was listed, with its counts.
use Rattle.std.proofs.Common.{length, refl}
use Rattle.layout.proofs.laws.Writing.{wrote_so}
use Rattle.listing.specs.Window.{window_of}
use Rattle.abi.proofs.Listing.{says_unlisted, says_listed}
use Rattle.abi.proofs.window.ptp_list_window.Goals as goal

pub returns-then-counts-lt4 : goal.returns-then-counts-lt4
returns-then-counts-lt4 c =
    let a = c.args in
    says_unlisted (window_of a.last (length a.out.now) a.s.now a.place a.records) a.out.now a.counts.now c.if-counts-lt4.true c.plain.ensures c.told.ensures

pub returns : goal.returns
returns c =
    let a = c.args in
    let room = c.if-counts-lt4.false in
    says_listed (window_of a.last (length a.out.now) a.s.now a.place a.records) a.out.now a.counts.now room c.list_window-w.ensures (wrote_so refl room c.give.ensures).1 c.told-2.ensures
