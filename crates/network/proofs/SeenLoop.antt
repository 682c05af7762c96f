-- A turn of a loop over the items of a transaction.
-- Assumes nothing.
use mathlib.Core.Path.{◌≡◌, sym, ◌∙◌}
use mathlib.Core.List.{List}
use Prim.Native.Nat.{ℕ, ◌-◌, ◌<◌}
use native.Mathlib.Omega.{arith}
use lib.Dec.{eqb}
use lib.ListN.{length}
use Rattle.layout.specs.Answer.{got}
use Rattle.layout.proofs.laws.Accepted.{accepted}
use Rattle.wire.specs.Container.{container_at}
use Rattle.wire.specs.declared.container.Container.{Container}
use Rattle.wire.proofs.laws.Contained.{Boxed, container_stands}
use Rattle.network.specs.Packet.{packet_at}
use Rattle.network.specs.Translated.{next_container, next_packet, piece_size, look_container, look_packet}
use Rattle.network.specs.declared.packet.Packet.{Packet}
use Rattle.network.specs.declared.see.Seen.{Seen}
use Rattle.network.proofs.PacketLaws.{Stood, packet_stands, piece_fits}
use Rattle.network.proofs.ItemsLaws.{rest_passed, Seeing, noted_within}

pub container_seen : {s : List ℕ} {at : ℕ} {t : Seen} {x : Container} {next : ℕ} → Seeing container_at look_container s at t → at < length s → got x next ≡ container_at s at →
    (at < next) × Seeing container_at look_container s next (look_container t x)
unfolding look_container
container_seen {s} {at} {t} {x} {next} g h e =
    let b = accepted (Boxed s at) (container_stands s at) e in (
      omega (arith, b.start, b.till),
      record {
        fuel = g.fuel - 1;
        enough = omega (arith, b.start, b.till, g.enough);
        all = sym (rest_passed container_at s look_container g.fuel t at h g.enough e) ∙ g.all;
        within = noted_within s (next_container t.stage t.code x.kind x.code x.payload.count) (eqb x.kind 1) (eqb x.kind 2) (eqb x.kind 3) x.code x.number x.payload 0 0 t (omega (arith, b.till, b.within)) g.within;
        sum = omega (arith, b.start, b.till, g.sum);
        inside = b.within;
      },
    )

pub packet_seen : {s : List ℕ} {at : ℕ} {t : Seen} {x : Packet} {next : ℕ} → Seeing packet_at look_packet s at t → at < length s → got x next ≡ packet_at s at →
    (at < next) × Seeing packet_at look_packet s next (look_packet t x)
unfolding look_packet
packet_seen {s} {at} {t} {x} {next} g h e =
    let b = accepted (Stood s at) (packet_stands s at) e in (
      omega (arith, b.start, b.till),
      record {
        fuel = g.fuel - 1;
        enough = omega (arith, b.start, b.till, g.enough);
        all = sym (rest_passed packet_at s look_packet g.fuel t at h g.enough e) ∙ g.all;
        within = noted_within s (next_packet t.stage x.kind x.body.count) (eqb x.kind 6) (eqb x.kind 9) (eqb x.kind 7) x.code x.number x.body x.total (piece_size x) t (omega (arith, b.till, b.within)) g.within;
        sum = omega (arith, b.start, b.till, g.sum, piece_fits x);
        inside = b.within;
      },
    )
