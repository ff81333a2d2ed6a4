-- What is claimed of records holds over any field that code works in and the edition of its images; the page of claims takes it for both fields.
-- Assumes nothing.
use mathlib.Core.Path.{ap}
use Prim.Native.Nat.{◌+◌, ◌*◌}
use lib.ListN.{length}
use Rattle.algebra.specs.Shape.{Field}
use Rattle.algebra.specs.Plain.{Working}
use Rattle.layout.specs.declared.Layout.{Layout}
use Rattle.layout.proofs.Facts.{with_facts}
use Rattle.share.specs.Many.{shares_refusal, shares_buffer, many_refusal, many_buffer}
use Rattle.image.specs.declared.Edition.{Edition}
use Rattle.gather.specs.Stored.{ImagesOf}
use Rattle.gather.proofs.Claims.{gather_claims}
use Rattle.gather.proofs.Returns.{written_live}
use Rattle.records.specs.Records.{rack_images, Records}
use Rattle.records.proofs.Racks.{rack_written, rack_exactly, rack_same, whole_same}
use Rattle.records.proofs.Repairs.{shares_same, hosts_long, hosts_alike, repaired_same, writable, rack_back}

pub records : {A : Type 0} {f : Field A} → Working f → (e : Edition) → ImagesOf f e → (l : Layout) → Records f e l
records {f = f} W e of l = record {
  gathering = gather_claims W e of l;
  rack_exactly = λ volume i lost images room q. rack_exactly e l volume i lost images room q;
  rack_same = λ volume images images' s i lost room z. rack_same e l volume images images' s i lost room z;
  share_same = λ volume images images' s i rack rack' long z m h room.
      let q = whole_same e l volume images images' s i rack rack' long z in (
        ap (λ v. many_refusal f l m h i v (length room)) q,
        ap (λ v. many_buffer f l m h i v room) q,
        ap (λ v. shares_refusal f l m h i v (length room)) q,
        ap (λ v. shares_buffer f l m h i v room) q,
      );
  given_same = λ volume images images' s lost helpers shares shares' host host' one other. (
    shares_same e l volume images images' s lost helpers shares shares' host host' one other,
    hosts_long e l volume images images' s lost helpers shares shares' host host' one other,
    hosts_alike e l volume images images' s lost helpers shares shares' host host' one other,
  );
  repaired_same = λ volume images images' s lost helpers shares shares' host host' one other q first budget old new new' r r' a b.
      repaired_same e l volume images images' s lost helpers shares shares' host host' one other W q first budget old new new' r r' a b;
  writable = λ volume w n t word x h. writable f e of l volume w n t word x h;
  rack_accepted = λ volume w images small i lost room q written.
      (rack_exactly e l volume i lost (rack_images e l images i) room q).0.1 (λ g hg a.
      written_live e of.proper l volume small w (rack_images e l images i) g (i * l.size + g)
      (rack_written e l volume w images i lost written g hg a));
  rack_back = λ t volume w images lost helpers shares host small word given theirs own from start G crossed to_come spare calls q.
      rack_back W e of.proper l (with_facts f.order 0 l t) volume small w images lost helpers shares host word given theirs own from
      start G crossed to_come spare calls q;
}
