-- Layers as data: contours as lists of points, the tables of points and ends that hold them and back, and areas. No function of the product.
pub mod Flat
pub mod TestedLayers
pub mod ContourAreas
pub mod AreaBoundLaws
pub mod Worked
