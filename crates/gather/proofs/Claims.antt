-- What is claimed holds over any field that code works in and the edition of its images.
-- Assumes nothing.
use lib.ListN.{length}
use Rattle.algebra.specs.Shape.{Field}
use Rattle.algebra.specs.Plain.{Working}
use Rattle.layout.specs.declared.Layout.{Layout}
use Rattle.image.specs.declared.Edition.{Edition}
use Rattle.gather.specs.Stored.{ImagesOf}
use Rattle.gather.specs.Claims.{GatherClaims}
use Rattle.gather.proofs.Counted.{states_counted, margin_known}
use Rattle.gather.proofs.Exactly.{present_exactly}
use Rattle.gather.proofs.Present.{present_only, recovered_same, corrected_same}
use Rattle.gather.proofs.Returns.{codeword_back}
use Rattle.gather.proofs.Wrong.{corrected_back}
use Rattle.gather.proofs.RackReturns.{lost_inside, rack_live, rack_symbols, rack_lost, rack_refusal_same, rack_never_looks}

pub gather_claims : {A : Type 0} {f : Field A} → Working f → (e : Edition) → ImagesOf f e → (l : Layout) → GatherClaims f e l
gather_claims {f = f} W e of l = record {
  present_exactly = λ volume images x small byte. present_exactly e of.proper l volume small images byte x;
  present_only = λ volume images images' d d' k k' r r' b.
      present_only e l volume images images' b.room b.room' b.list b.list' d d' k k' r r' b.alike b.same_room
      b.same_list b.one b.other;
  recovered_same = λ volume images images' d d' k k' r r' b z w w' n n' p q.
      recovered_same e l volume images images' b.room b.room' b.list b.list' d d' k k' r r' b.alike b.same_room
      b.same_list b.one b.other f w w' n n' z p q;
  corrected_same = λ volume images images' d d' k k' r r' b z w w' h h' p q.
      corrected_same e l volume images images' b.room b.room' b.list b.list' d d' k k' r r' b.alike b.same_room
      b.same_list b.one b.other W w w' h h' z p q;
  states_counted = λ volume images states z c m d k r g y.
      (states_counted e l volume images states z c m d k r g y, margin_known e l volume images states z c m d k r g y);
  codeword_back = λ volume w images kept s c m d k r g q z n a. codeword_back f e of l volume w images kept s c m d k r g q z n a;
  corrected_back = λ volume w images kept y s c m d k r g q z h a. corrected_back W e of l volume w images kept y s c m d k r g q z h a;
  lost_unread = λ volume rack lost images images' a b out. (
    rack_refusal_same e l volume rack lost images images' a b
        (length out),
    rack_never_looks e l volume rack lost images images' a b out,
  );
  rack_gathered = λ volume rack lost images out z. (
    lost_inside e l volume rack lost images (length out) z,
    rack_live e l volume rack lost images out z,
    (λ small w g j hg hj a written. rack_symbols e l volume rack lost images out z of.proper small w g j hg hj a written),
    rack_lost e l volume rack lost images out z,
  );
}
