pub mod Numbers
pub mod FaceLemmas
pub mod ArrayLemmas
pub mod ReadLemmas
pub mod MeshLemmas
pub mod WriteLemmas
pub mod NetLemmas
pub mod FaceByFace
pub mod EdgeLemmas
pub mod SharedLemmas
pub mod AddLemmas
pub mod ReadBack
pub mod MeshBack
pub mod AddedValid
mod Rows
